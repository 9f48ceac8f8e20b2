use Rattle.std.proofs.Common.{◌≡◌, ◌+◌, ◌++◌, take}
use Rattle.ag_ends.specs.Starts.{starts_after}
use Rattle.ag_front.proofs.history.push_starts.Given as goal

abbrev pub invariant-loop-record : goal.invariant-loop-record
invariant-loop-record l =
    (l.lsn ≡ l.before + l.record-index) × (l.starts.items ≡ l.fn.starts.items ++ starts_after l.before (take l.record-index l.records))
