use Rattle.std.proofs.Common.{refl, ap, ◌∙◌}
use Rattle.ag_node.specs.Nodes.{leading_of}
use Rattle.ag_node.proofs.HomesKept.{home_down}
use Rattle.ag_node.proofs.NodesKept.{node_emptied}
use Rattle.ag_node.proofs.StartSteps.{node_fell}
use Rattle.ag_node.proofs.Views.{replica_is}
use Rattle.ag_node.proofs.node.Node.fall.Goals as goal

pub returns-clause-after : goal.returns-clause-after
returns-clause-after g c =
    let n = c.self.inside in
    node_fell n.home c.fall.new.self _ n.published (leading_of n.buffer n.last_txn n.synced n.peers.items) (leading_of c.new.result 0 0 c.new-2.result.items) c.args.self.now.replica
    (replica_is c.self.view_is) c.self.invariant.home c.fall.ensures (λ i. leading_of (c.new.ensures i) 0 0 (c.new-2.ensures.items i))
