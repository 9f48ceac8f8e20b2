use Rattle.std.proofs.Common.{◌+◌, ◌≤◌, length, sym, subst}
use Rattle.ag_outside.specs.Disks.{writes}
use Rattle.ag_outside.specs.Scripts.{ScriptedView, InRange}
use Rattle.ag_outside.proofs.Flushed.{in_range-append, in_range-writes}
use Rattle.ag_outside.proofs.scripted.Scripted.keep_back.Goals as goal

pub invariant_of-self-2 : goal.invariant_of-self-2
invariant_of-self-2 g c =
    let size = g.D.Disk.size c.self.inside.disk in
    let room : c.args.first + length c.args.from.now ≤ size = subst (λ (v : ScriptedView _). c.args.first + length c.args.from.now ≤ g.D.Disk.size v.disk) (sym c.self.view_is) c.requires in
    (subst (InRange size) (sym c.in_ok-add_writes.ensures.ok) (in_range-append size c.self.inside.unsynced.items (writes c.args.first c.args.from.now) c.self.invariant.0 (in_range-writes size c.args.first c.args.from.now room)), c.self.invariant.1)
