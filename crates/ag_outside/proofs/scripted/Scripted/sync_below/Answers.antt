use Rattle.std.proofs.Common.{IsTrue, sym, subst}
use Rattle.ag_outside.specs.Scripts.{InRange}
use Rattle.ag_outside.proofs.scripted.Scripted.sync_below.Goals as goal

pub invariant_of-self : goal.invariant_of-self
invariant_of-self g c =
    let kept = λ (k : IsTrue (g.D.Disk.keeps c.flush-result.new.disk)). subst IsTrue c.flush-result.ensures.keeps k in
    (subst (InRange (g.D.Disk.size c.flush-result.new.disk)) (sym c.in-Ok.ensures.empty) tt, λ intact k. c.in-Ok.ensures.lost (kept k) (c.self.invariant.1 intact (kept k)))
