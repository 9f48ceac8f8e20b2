use Rattle.std.proofs.Common.{◌-◌, subst}
use Rattle.std.specs.Prelude.{IfSome}
use Rattle.ag_model.specs.Blocks.{after_to}
use Rattle.ag_rules.specs.Replica.{Replica, records}
use Rattle.ag_built.specs.Whole.{IsWhole}
use Rattle.ag_logstore.proofs.Blocks.{block_found}
use Rattle.ag_node.proofs.Views.{replica_is}
use Rattle.ag_node.proofs.node.Node.block_to_send.Goals as goal

pub returns-clause-whole : goal.returns-clause-whole
returns-clause-whole g c =
    let n = c.self.inside in
    subst (λ (x : Replica). IfSome c.block_from.result (λ last. IsWhole (after_to (c.args.first - 1) last (records x)))) (replica_is c.self.view_is)
    (block_found IsWhole c.block_from.result _ c.args.first n.home.log.ends n.home.log.records c.self.invariant.home.first.rises c.self.invariant.home.first.blocks c.block_from.ensures.end)
