use Rattle.std.proofs.Common.{◌≡◌, ◌++◌, map, take, drop}
use Rattle.ag_version.specs.Edits.{stamped}
use Rattle.ag_version.proofs.edits.stamped.Given as goal

abbrev pub invariant-loop-version : goal.invariant-loop-version
invariant-loop-version l = l.version-items ≡ map (stamped l.lsn l.txn) (take l.version-index l.fn.versions) ++ drop l.version-index l.fn.versions
