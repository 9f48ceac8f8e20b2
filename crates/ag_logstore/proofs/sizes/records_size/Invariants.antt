use Rattle.std.proofs.Common.{◌≡◌, take}
use Rattle.ag_model.specs.Sizes.{records_size as size_of_records}
use Rattle.ag_logstore.proofs.sizes.records_size.Given as goal

abbrev pub invariant-loop-record : goal.invariant-loop-record
invariant-loop-record l = l.bytes ≡ size_of_records (take l.record-index l.records)
