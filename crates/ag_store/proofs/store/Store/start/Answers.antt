use Rattle.std.proofs.Common.{◌≡◌, ◌+◌, ◌^◌, ◌<◌, Bool, true, None, sym, ap, ◌∙◌, subst}
use Rattle.std.specs.Prelude.{Option}
use Rattle.ag_outside.specs.Shown.{reads_of}
use Rattle.ag_store.specs.Standing.{IsStore}
use Rattle.ag_store.specs.Views.{MemoryView, StoreView, store_on, started_store}
use Rattle.ag_store.proofs.Started.{none-of, started-again}
use Rattle.ag_store.proofs.store.Store.start.Goals as goal

pub start_whole-requires-clause-store : goal.start_whole-requires-clause-store
start_whole-requires-clause-store g c =
    let d = g.D.Disk in
    let i = c.self.inside in
    let sound : i.is_sound ≡ true = ap (λ (v : StoreView). v.sound) c.self.view_is ∙ c.requires.sound in
    let none : i.memory ≡ None = none-of i.memory (ap (λ (v : StoreView). v.kept.loaded) c.self.view_is ∙ c.requires.down) in
    subst (λ (b : Bool). IsStore d.size d.keeps d.reads d.may_hold i.disk i.pages None b) sound (subst (λ (o : Option MemoryView). IsStore d.size d.keeps d.reads d.may_hold i.disk i.pages o i.is_sound) none c.self.invariant)

pub start_whole-requires-clause-small : goal.start_whole-requires-clause-small
start_whole-requires-clause-small g c =
    subst (λ (v : StoreView). v.kept.incarnation + 1 < 2 ^ 64) (sym c.self.view_is) c.requires.small

pub invariant_of-self : goal.invariant_of-self
invariant_of-self g c =
    let d = g.D.Disk in
    let i = c.self.inside in
    let sound : i.is_sound ≡ true = ap (λ (v : StoreView). v.sound) c.self.view_is ∙ c.requires.sound in
    subst (λ (b : Bool). IsStore d.size d.keeps d.reads d.may_hold c.start_whole.new.disk i.pages c.in-Ok.memory b) (sym sound) c.in-Ok.ensures.store

pub returns-in-Ok-clause-store : goal.returns-in-Ok-clause-store
returns-in-Ok-clause-store g c =
    let d = g.D.Disk in
    let i = c.self.inside in
    let sound : i.is_sound ≡ true = ap (λ (v : StoreView). v.sound) c.self.view_is ∙ c.requires.sound in
    let none : i.memory ≡ None = none-of i.memory (ap (λ (v : StoreView). v.kept.loaded) c.self.view_is ∙ c.requires.down) in
    started-again d.reads i.disk c.start_whole.new.disk i.pages i.is_sound c.in-Ok.reach c.in-Ok.memory (d.faults i.disk.disk) (d.faults c.start_whole.new.disk.disk) sound c.in-Ok.ensures.view
    ∙ ap (λ (v : StoreView). record (started_store v c.in-Ok.reach) { faults = d.faults c.start_whole.new.disk.disk }) (ap (λ (o : Option MemoryView). store_on (reads_of d.reads i.disk) i.pages o i.is_sound (d.faults i.disk.disk)) (sym none) ∙ c.self.view_is)
