use Rattle.std.proofs.Common.{◌≡◌, take}
use Rattle.ag_model.specs.Sizes.{records_size}
use Rattle.ag_txn.proofs.sizes.records_size.Given as goal

abbrev pub invariant-loop-entry : goal.invariant-loop-entry
invariant-loop-entry l = l.size ≡ records_size (take l.entry-index l.records)
