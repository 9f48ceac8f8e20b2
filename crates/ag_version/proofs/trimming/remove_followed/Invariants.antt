use Rattle.std.proofs.Common.{◌-◌, vec_len}
use Rattle.ag_version.proofs.Removing.{Removes}
use Rattle.ag_version.proofs.trimming.remove_followed.Given as goal

abbrev pub invariant-loop-i : goal.invariant-loop-i
invariant-loop-i l = Removes l.horizon l.initial.items.items l.items.items l.i

abbrev pub decreases-loop-i : goal.decreases-loop-i
decreases-loop-i l = vec_len l.items - l.i
