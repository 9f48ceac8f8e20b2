use Rattle.std.proofs.Common.{◌≡◌, get_or, Some, sym, ap, ◌∙◌}
use Rattle.std.specs.Prelude.{Option}
use Rattle.ag_outside.specs.Shown.{reads_of}
use Rattle.ag_store.specs.Views.{MemoryView, StoreView, store_on}
use Rattle.ag_store.proofs.store.Store.applied.Goals as goal

pub returns : goal.returns
returns g c =
    let d = g.D.Disk in
    let i = c.self.inside in
    let m : MemoryView = record { log = c.memory.inside.log; pages = c.memory.inside.pages; redo = c.memory.inside.redo } in
    let has : i.memory ≡ Some m = c.in-Some.is ∙ ap (λ (v : MemoryView). Some v) (sym c.memory.view_is) in
    c.applied.ensures ∙ ap (λ (v : StoreView). get_or v.applied c.args.stripe 0) (ap (λ (o : Option MemoryView). store_on (reads_of d.reads i.disk) i.pages o i.is_sound (d.faults i.disk.disk)) (sym has) ∙ c.self.view_is)
