use Rattle.std.proofs.Common.{◌≡◌, drop}
use Rattle.ag_rules.specs.Plan.{batch_written}
use Rattle.ag_writes.specs.Writes.{batch_of}
use Rattle.ag_writes_t.specs.RowHomes.{standing}
use Rattle.ag_writes_t.proofs.home.add_all.Given as goal

abbrev pub invariant-loop-write : goal.invariant-loop-write
invariant-loop-write l = batch_written (standing l.rows) (batch_of (drop l.write-index l.batch)) ≡ batch_written (standing l.fn.rows) (batch_of l.batch)
