use Rattle.std.proofs.Common.{◌≡◌, true, ap, ◌∙◌}
use Rattle.ag_rules.specs.Replica.{Replica}
use Rattle.ag_node.specs.Nodes.{leading_of}
use Rattle.ag_node.proofs.FlushSteps.{least_is, node_flushed}
use Rattle.ag_node.proofs.NodesKept.{node_flushed_kept}
use Rattle.ag_node.proofs.Views.{replica_is}
use Rattle.ag_node.proofs.node.Node.flush_pages.Goals as goal

pub invariant_of-self-2 : goal.invariant_of-self-2
invariant_of-self-2 g c =
    let n = c.self.inside in
    node_flushed_kept n.home c.flush.new.self n.published n.buffer n.buffered n.last_txn n.used.items c.self.invariant c.in_ok-lsn.ensures.home

pub returns-clause-lsn : goal.returns-clause-lsn
returns-clause-lsn g c =
    let n = c.self.inside in
    let up : n.home.activity.up ≡ true = ap (λ (x : Replica). x.up) (replica_is c.self.view_is) ∙ c.requires.up in
    c.in_ok-lsn.ensures.lsn ∙ least_is n.home n.published (leading_of n.buffer n.last_txn n.synced n.peers.items) c.args.self.now.replica (replica_is c.self.view_is) c.self.invariant.home c.self.invariant.sixteen up

pub returns-clause-after : goal.returns-clause-after
returns-clause-after g c =
    let n = c.self.inside in
    let up : n.home.activity.up ≡ true = ap (λ (x : Replica). x.up) (replica_is c.self.view_is) ∙ c.requires.up in
    node_flushed n.home c.flush.new.self n.published (leading_of n.buffer n.last_txn n.synced n.peers.items) c.args.self.now.replica c.args.pages _ (replica_is c.self.view_is) c.requires.pages c.self.invariant.home c.self.invariant.sixteen up c.in_ok-lsn.ensures.home
