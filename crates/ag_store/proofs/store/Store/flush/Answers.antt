use Rattle.std.proofs.Common.{◌≡◌, Some, true, sym, ap, ◌∙◌, subst}
use Rattle.std.specs.Prelude.{Bool, Option}
use Rattle.ag_outside.specs.Shown.{reads_of}
use Rattle.ag_rules.specs.Replica.{least}
use Rattle.ag_store.specs.Standing.{IsStore}
use Rattle.ag_store.specs.Views.{MemoryView, StoreView, flushed_store, store_on}
use Rattle.ag_store.proofs.store.Store.flush.Goals as goal

pub flush_on-requires : goal.flush_on-requires
flush_on-requires g c =
    let d = g.D.Disk in
    let i = c.self.inside in
    let has : i.memory ≡ Some c.in-Some.memory = sym c.take.ensures.value ∙ c.in-Some.is in
    let sound : i.is_sound ≡ true = ap (λ (v : StoreView). v.sound) c.self.view_is ∙ c.requires.sound in
    subst (λ (o : Option MemoryView). IsStore d.size d.keeps d.reads d.may_hold i.disk i.pages o true) has
    (subst (λ (b : Bool). IsStore d.size d.keeps d.reads d.may_hold i.disk i.pages i.memory b) sound c.self.invariant)

pub invariant_of-self : goal.invariant_of-self
invariant_of-self g c =
    let d = g.D.Disk in
    let i = c.self.inside in
    let sound : i.is_sound ≡ true = ap (λ (v : StoreView). v.sound) c.self.view_is ∙ c.requires.sound in
    subst (λ (b : Bool). IsStore d.size d.keeps d.reads d.may_hold c.flush_on.new.disk i.pages (Some c.in-Ok.memory) b) (sym sound) c.in-Ok.ensures.store

pub returns-in-Ok-clause-lsn : goal.returns-in-Ok-clause-lsn
returns-in-Ok-clause-lsn g c =
    let d = g.D.Disk in
    let i = c.self.inside in
    let has : i.memory ≡ Some c.in-Some.memory = sym c.take.ensures.value ∙ c.in-Some.is in
    ap (λ (v : MemoryView). v.redo) c.memory.view_is ∙ c.in-Ok.ensures.lsn ∙ sym (ap (λ (o : Option MemoryView). least (store_on (reads_of d.reads i.disk) i.pages o i.is_sound 0).applied) has) ∙ ap (λ (v : StoreView). least v.applied) c.self.view_is

pub returns-in-Ok-clause-store : goal.returns-in-Ok-clause-store
returns-in-Ok-clause-store g c =
    let d = g.D.Disk in
    let i = c.self.inside in
    let has : i.memory ≡ Some c.in-Some.memory = sym c.take.ensures.value ∙ c.in-Some.is in
    let sound : i.is_sound ≡ true = ap (λ (v : StoreView). v.sound) c.self.view_is ∙ c.requires.sound in
    let now = d.faults c.flush_on.new.disk.disk in
    ap (λ (b : Bool). store_on (reads_of d.reads c.flush_on.new.disk) i.pages (Some c.in-Ok.memory) b now) sound
    ∙ ap (λ (v : StoreView). record v { faults = now }) c.in-Ok.ensures.view
    ∙ sym (ap (λ (o : Option MemoryView). record (flushed_store (store_on (reads_of d.reads i.disk) i.pages o true 0)) { faults = now }) has)
    ∙ sym (ap (λ (b : Bool). record (flushed_store (store_on (reads_of d.reads i.disk) i.pages i.memory b 0)) { faults = now }) sound)
    ∙ ap (λ (v : StoreView). record (flushed_store v) { faults = now }) c.self.view_is
