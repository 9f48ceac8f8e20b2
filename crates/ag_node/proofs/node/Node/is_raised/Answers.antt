use Rattle.std.proofs.Common.{◌≡◌, true, nat_eq, ap, sym, ◌∙◌}
use Rattle.ag_rules.specs.Replica.{Replica, stripe}
use Rattle.ag_node.proofs.NodeSteps.{shown_at, stands_at}
use Rattle.ag_node.proofs.Views.{replica_is}
use Rattle.ag_node.proofs.node.Node.is_raised.Goals as goal

pub returns : goal.returns
returns g c =
    let n = c.self.inside in
    let up : n.home.activity.up ≡ true = ap (λ (x : Replica). x.up) (replica_is c.self.view_is) ∙ c.requires.up in
    let shown = c.of.ensures ∙ sym (shown_at n.home n.published c.args.x c.self.invariant.home c.self.invariant.sixteen up) ∙ ap (λ (r : Replica). (stripe r c.args.x).published) (replica_is c.self.view_is) in
    let stands = c.applied.ensures ∙ sym (stands_at n.home n.published c.args.x c.self.invariant.home c.self.invariant.sixteen up) ∙ ap (λ (r : Replica). (stripe r c.args.x).applied) (replica_is c.self.view_is) in
    λ i. nat_eq (shown i) (stands i)
