use Rattle.std.proofs.Common.{◌≡◌, Some, true, sym, ap, ◌∙◌}
use Rattle.ag_store.specs.Views.{MemoryView, StoreView}
use Rattle.ag_store.proofs.Hardening.{same_log}
use Rattle.ag_store.proofs.store.Store.log.Goals as goal

pub returns : goal.returns
returns g c =
    let d = g.D.Disk in
    let i = c.self.inside in
    let m : MemoryView = record { log = c.memory.inside.log; pages = c.memory.inside.pages; redo = c.memory.inside.redo } in
    let has : i.memory ≡ Some m = c.in-Some.is ∙ ap (λ (v : MemoryView). Some v) (sym c.memory.view_is) in
    let sound : i.is_sound ≡ true = ap (λ (v : StoreView). v.sound) c.self.view_is ∙ c.requires.sound in
    c.log.ensures ∙ sym (same_log d.size d.keeps d.reads d.may_hold i.disk i.pages i.memory i.is_sound m c.self.invariant sound has) ∙ ap (λ (v : StoreView). v.kept.log) c.self.view_is
