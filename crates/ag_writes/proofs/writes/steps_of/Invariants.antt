use Rattle.std.proofs.Common.{◌≡◌, ◌+◌, ◌≤◌, drop}
use Rattle.ag_rules.specs.Cut.{steps_of}
use Rattle.ag_writes.specs.Writes.{batch_of}
use Rattle.ag_writes.proofs.writes.steps_of.Given as goal

abbrev pub invariant-loop-write : goal.invariant-loop-write
invariant-loop-write l = record {
  count : l.steps + steps_of (batch_of (drop l.write-index l.writes)) ≡ steps_of (batch_of l.writes);
  few : l.steps ≤ l.write-index;
}
