use Rattle.std.proofs.Common.{◌≡◌, ◌<◌, ◌^◌, take}
use Rattle.ag_model.specs.Sizes.{records_size}
use Rattle.ag_record.proofs.lists.total_size.Given as goal

abbrev pub invariant-loop-r : goal.invariant-loop-r
invariant-loop-r l = record {
  sum : l.total ≡ records_size (take l.r-index l.rs);
  fits : l.total < 2 ^ 64;
}
