use Rattle.std.proofs.Common.{rules, of_calls}
use Rattle.std.specs.Prelude.{nat_le}
use Rattle.std.proofs.lemmas.Fn.{always_returns_same}
use Rattle.std.proofs.lemmas.List.Sorted.{IsPartitionedBy-leb}
use Rattle.ag_model.specs.declared.config.TermStart.{TermStart}
use Rattle.ag_logstore.proofs.Cuts.{take_is_filter}
use Rattle.ag_logstore.proofs.search.starts_to.Goals as goal

pub returns-clause-kept : goal.returns-clause-kept
returns-clause-kept c =
    let ss = c.args.starts.now in
    let lsn = λ (s : TermStart). s.lsn in
    let test = λ (s : TermStart). nat_le s.lsn c.args.last in
    let point = c.partition_point.ensures.partitioned test (always_returns_same _ _ _ (λ a r f k. search (rules, of_calls))) (IsPartitionedBy-leb lsn ss c.args.last c.requires) in
    take_is_filter test ss c.partition_point.result c.partition_point.ensures.bound point
