use Rattle.std.proofs.Common.{◌≡◌, ◌≤◌, ◌+◌, drop}
use Rattle.ag_rules.specs.Cut.{batch_partly_written, steps_kept}
use Rattle.ag_writes.specs.Writes.{batch_of}
use Rattle.ag_writes_t.specs.RowHomes.{standing}
use Rattle.ag_writes_t.proofs.home.add_kept.Given as goal

abbrev pub invariant-loop-sector : goal.invariant-loop-sector
invariant-loop-sector l = record {
  disk : batch_partly_written l.mask l.sector (standing l.rows) (batch_of (drop l.sector l.batch)) ≡ batch_partly_written l.mask 0 (standing l.fn.rows) (batch_of l.batch);
  steps : l.count + steps_kept l.mask l.sector (batch_of (drop l.sector l.batch)) ≡ steps_kept l.mask 0 (batch_of l.batch);
  few : l.count ≤ l.sector;
}
