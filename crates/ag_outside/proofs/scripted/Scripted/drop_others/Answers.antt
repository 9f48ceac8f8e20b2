use Rattle.std.proofs.Common.{sym, ap, subst, ◌∙◌}
use Rattle.ag_outside.specs.Scripts.{InRange, kept}
use Rattle.ag_outside.proofs.Flushed.{in_range-kept}
use Rattle.ag_outside.proofs.scripted.Scripted.drop_others.Goals as goal

pub invariant_of-self : goal.invariant_of-self
invariant_of-self g c =
    let size = g.D.Disk.size c.self.inside.disk in
    let is = c.in_ok-kept.ensures ∙ ap (kept c.args.mask 0) c.deref.ensures.value in
    (subst (InRange size) (sym is) (in_range-kept size c.args.mask 0 c.self.inside.unsynced.items c.self.invariant.0), c.self.invariant.1)
