use Rattle.std.proofs.Common.{◌≡◌, true, refl, ap, ◌∙◌}
use Rattle.ag_model.specs.declared.message.Message.{Message}
use Rattle.ag_model.specs.declared.message.Body.TheVariants.{Ack}
use Rattle.ag_rules.specs.Messages.{ack_message}
use Rattle.ag_rules.specs.Replica.{Replica, front}
use Rattle.ag_node.specs.View.{node_of, stripes_in}
use Rattle.ag_node.specs.Nodes.{leading_of}
use Rattle.ag_node.proofs.NodeSteps.{front_told}
use Rattle.ag_node.proofs.Views.{replica_is}
use Rattle.ag_node.proofs.node.Node.ack.Goals as goal

pub returns-clause-is : goal.returns-clause-is
returns-clause-is g c =
    let n = c.self.inside in
    let leading = leading_of n.buffer n.last_txn n.synced n.peers.items in
    let r : Replica = node_of n.home (stripes_in n.home n.published) leading in
    let up : n.home.activity.up ≡ true = ap (λ (x : Replica). x.up) (replica_is c.self.view_is) ∙ c.requires.up in
    let told : c.front.result ≡ front r = c.front.ensures ∙ front_told n.home n.published leading r refl c.self.invariant.home c.self.invariant.sixteen up in
    let is : ack_message r c.args.hardened ≡ ack_message c.args.self.now.replica c.args.hardened = ap (λ (x : Replica). ack_message x c.args.hardened) (replica_is c.self.view_is) in
    ap (λ l. record { term = 1; body = Ack c.args.hardened l }) told ∙ is
