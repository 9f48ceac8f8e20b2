use Rattle.std.proofs.Common.{◌≡◌, true, ap, ◌∙◌}
use Rattle.ag_rules.specs.Replica.{Replica}
use Rattle.ag_node.specs.Nodes.{leading_of}
use Rattle.ag_node.proofs.NodeSteps.{pages_are, value_is}
use Rattle.ag_node.proofs.Views.{replica_is}
use Rattle.ag_node.proofs.node.Node.value_of.Goals as goal

pub returns-clause-value : goal.returns-clause-value
returns-clause-value g c =
    let n = c.self.inside in
    let leading = leading_of n.buffer n.last_txn n.synced n.peers.items in
    let up : n.home.activity.up ≡ true = ap (λ (x : Replica). x.up) (replica_is c.self.view_is) ∙ c.requires.up in
    c.in_ok-value.ensures.value
    ∙ value_is n.home n.published leading c.args.self.now.replica c.args.pages c.args.page (replica_is c.self.view_is) c.self.invariant.home c.self.invariant.sixteen up
    (pages_are n.home _ leading c.args.self.now.replica c.args.pages (replica_is c.self.view_is) c.requires.pages c.self.invariant.home)
