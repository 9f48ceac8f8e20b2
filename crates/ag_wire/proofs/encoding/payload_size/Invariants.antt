use Rattle.std.proofs.Common.{◌≡◌, take}
use Rattle.ag_model.specs.Sizes.{records_size}
use Rattle.ag_wire.proofs.encoding.payload_size.Given as goal

abbrev pub invariant-loop-r : goal.invariant-loop-r
invariant-loop-r l = l.total ≡ records_size (take l.r-index l.records)
