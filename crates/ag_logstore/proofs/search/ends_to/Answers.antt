use Rattle.std.proofs.Common.{ℕ, rules, of_calls}
use Rattle.std.specs.Prelude.{nat_le}
use Rattle.std.proofs.lemmas.Fn.{always_returns_same}
use Rattle.std.proofs.lemmas.List.Sorted.{IsPartitionedBy-leb, IsNonDecreasingBy-from_default}
use Rattle.ag_ends.proofs.Places.{in_order}
use Rattle.ag_logstore.proofs.Cuts.{take_is_filter}
use Rattle.ag_logstore.proofs.search.ends_to.Goals as goal

pub returns-clause-kept : goal.returns-clause-kept
returns-clause-kept c =
    let es = c.args.ends.now in
    let test = λ (e : ℕ). nat_le e c.args.last in
    let rising = IsNonDecreasingBy-from_default (λ (e : ℕ). e) es 0 (λ i j. in_order 0 i j es c.requires) in
    let point = c.partition_point.ensures.partitioned test (always_returns_same _ _ _ (λ a r f k. search (rules, of_calls))) (IsPartitionedBy-leb (λ (e : ℕ). e) es c.args.last rising) in
    take_is_filter test es c.partition_point.result c.partition_point.ensures.bound point
