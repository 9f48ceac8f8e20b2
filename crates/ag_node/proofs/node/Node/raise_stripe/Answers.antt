use Rattle.std.proofs.Common.{◌≡◌, ◌≤◌, get_or, false, true, ap, sym, subst, length, ◌∙◌, arith}
use Rattle.std.proofs.lemmas.List.{length-set}
use Rattle.ag_rules.specs.Replica.{Replica, stripe}
use Rattle.ag_node.specs.Nodes.{leading_of, IsNode}
use Rattle.ag_node.proofs.NodesKept.{node_follows, redone_raised}
use Rattle.ag_node.proofs.NodeSteps.{node_raised_stripe, stands_at}
use Rattle.ag_node.proofs.Views.{replica_is}
use Rattle.ag_node.proofs.node.Node.raise_stripe.Goals as goal

pub returns-clause-lsn : goal.returns-clause-lsn
returns-clause-lsn g c =
    let n = c.self.inside in
    let up : n.home.activity.up ≡ true = ap (λ (x : Replica). x.up) (replica_is c.self.view_is) ∙ c.requires.up in
    c.applied-lsn.ensures ∙ sym (stands_at n.home n.published c.args.x c.self.invariant.home c.self.invariant.sixteen up) ∙ ap (λ (r : Replica). (stripe r c.args.x).applied) (replica_is c.self.view_is)

pub returns-clause-after : goal.returns-clause-after
returns-clause-after g c =
    let n = c.self.inside in
    let up : n.home.activity.up ≡ true = ap (λ (x : Replica). x.up) (replica_is c.self.view_is) ∙ c.requires.up in
    node_raised_stripe n.home n.published c.raise.new.self (leading_of n.buffer n.last_txn n.synced n.peers.items) c.args.self.now.replica c.args.x c.applied-lsn.result (replica_is c.self.view_is) c.self.invariant.home c.self.invariant.sixteen up c.raise.ensures
    (c.applied-lsn.ensures ∙ sym (stands_at n.home n.published c.args.x c.self.invariant.home c.self.invariant.sixteen up) ∙ ap (λ (r : Replica). (stripe r c.args.x).applied) (replica_is c.self.view_is))

pub invariant_of-self : goal.invariant_of-self
invariant_of-self g c =
    let n = c.self.inside in
    let up : n.home.activity.up ≡ true = ap (λ (x : Replica). x.up) (replica_is c.self.view_is) ∙ c.requires.up in
    let follows : n.home.activity.leads ≡ false = ap (λ (x : Replica). x.leads) (replica_is c.self.view_is) ∙ c.requires.follows in
    subst (λ p. IsNode n.home p n.buffer n.buffered n.last_txn n.used.items) (sym c.raise.ensures)
    (node_follows n.home n.home n.published _ n.buffer n.buffered n.last_txn n.used.items c.self.invariant c.self.invariant.home follows (length-set n.published c.args.x c.applied-lsn.result ∙ c.self.invariant.sixteen)
    (λ e. redone_raised n.home.applied n.published c.args.x c.applied-lsn.result (c.self.invariant.redone up) (omega (arith, c.applied-lsn.ensures))))
