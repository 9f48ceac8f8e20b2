use Rattle.std.proofs.Common.{◌≡◌, ◌+◌, drop}
use Rattle.std.specs.List.{common_prefix_len}
use Rattle.ag_model.specs.Starts.{is_same_start}
use Rattle.ag_revert.proofs.forks.common_starts.Given as goal

abbrev pub invariant-loop-i : goal.invariant-loop-i
invariant-loop-i l = common_prefix_len is_same_start l.own l.other ≡ l.i + common_prefix_len is_same_start (drop l.i l.own) (drop l.i l.other)
