use Rattle.ag_store.proofs.Stores.{without_memory}
use Rattle.ag_store.proofs.store.Store.fall.Goals as goal

pub invariant_of-self : goal.invariant_of-self
invariant_of-self g c =
    let d = g.D.Disk in
    without_memory d.size d.keeps d.reads d.may_hold c.self.inside.disk c.self.inside.pages c.self.inside.memory c.self.inside.is_sound c.self.invariant
