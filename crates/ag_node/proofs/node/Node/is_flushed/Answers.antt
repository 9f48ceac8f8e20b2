use Rattle.std.proofs.Common.{◌≡◌, true, nat_eq, ap, ◌∙◌}
use Rattle.ag_rules.specs.Replica.{Replica}
use Rattle.ag_node.specs.Nodes.{leading_of}
use Rattle.ag_node.proofs.FlushSteps.{least_is}
use Rattle.ag_node.proofs.Views.{replica_is}
use Rattle.ag_node.proofs.node.Node.is_flushed.Goals as goal

pub returns-clause-is : goal.returns-clause-is
returns-clause-is g c =
    let n = c.self.inside in
    let up : n.home.activity.up ≡ true = ap (λ (x : Replica). x.up) (replica_is c.self.view_is) ∙ c.requires.up in
    let least = c.least_applied.ensures ∙ least_is n.home n.published (leading_of n.buffer n.last_txn n.synced n.peers.items) c.args.self.now.replica (replica_is c.self.view_is) c.self.invariant.home c.self.invariant.sixteen up in
    let start = c.redo_start.ensures ∙ ap (λ (r : Replica). r.kept.master.redo_start) (replica_is c.self.view_is) in
    λ i. nat_eq (least i) (start i)
