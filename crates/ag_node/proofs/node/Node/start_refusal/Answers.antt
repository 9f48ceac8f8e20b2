use Rattle.std.proofs.Common.{◌≡◌, ◌<◌, false, sym, ap, ◌∙◌, arith}
use Rattle.ag_rules.specs.Replica.{Replica}
use Rattle.ag_node.specs.Nodes.{leading_of}
use Rattle.ag_node.specs.Sites.{here_among}
use Rattle.ag_node.proofs.StartSteps.{can_start, start_writes_are}
use Rattle.ag_node.proofs.Views.{replica_is}
use Rattle.ag_node.proofs.node.Node.start_refusal.Goals as goal

pub returns-clause-writes : goal.returns-clause-writes
returns-clause-writes g c =
    let n = c.self.inside in
    let leading = leading_of n.buffer n.last_txn n.synced n.peers.items in
    let down : n.home.activity.up ≡ false = ap (λ (r : Replica). r.up) (replica_is c.self.view_is) ∙ sym c.is_up.ensures ∙ c.if-is_up.false in
    let few : n.home.activity.incarnation < 9223372036854775808 = omega (arith, c.in_ok-incarnation.ensures.is, ap (λ (r : Replica). r.kept.master.incarnation) (replica_is c.self.view_is), c.if-incarnation-ge9223372036854775808.false) in
    start_writes_are n.home _ leading c.args.self.now.replica (here_among c.args.site.now c.args.modes.now) (replica_is c.self.view_is) c.requires.pages c.requires.term c.self.invariant.home
    (can_start n.home _ leading c.args.self.now.replica (replica_is c.self.view_is) down few)
