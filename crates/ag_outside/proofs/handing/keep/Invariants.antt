use Rattle.std.proofs.Common.{◌≡◌, ◌++◌, drop}
use Rattle.ag_outside.specs.Scripts.{kept}
use Rattle.ag_outside.proofs.handing.keep.Given as goal

abbrev pub invariant-writes : goal.invariant-writes
invariant-writes l = l.all.items ++ kept l.mask l.number (drop l.number l.unsynced) ≡ kept l.mask 0 l.unsynced
