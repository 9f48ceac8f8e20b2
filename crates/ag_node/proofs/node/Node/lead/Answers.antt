use Rattle.std.proofs.Common.{◌≡◌, ◌==◌, true, false, ap, sym, ◌∙◌}
use Rattle.ag_model.specs.Txns.{last_txn}
use Rattle.ag_rules.specs.Replica.{Replica}
use Rattle.ag_node.specs.Nodes.{leading_of}
use Rattle.ag_node.specs.Room.{used_in}
use Rattle.ag_node.specs.Sites.{here_among}
use Rattle.ag_node.specs.Starting.{leads_up}
use Rattle.ag_node.specs.View.{node_of, state_of, stripes_in}
use Rattle.ag_node.proofs.HomeSteps.{follows_not}
use Rattle.ag_node.proofs.NodesKept.{node_led}
use Rattle.ag_node.proofs.NodeSteps.{pages_are}
use Rattle.ag_node.proofs.StartSteps.{all_strangers, at_end_of}
use Rattle.ag_node.proofs.Views.{replica_is}
use Rattle.ag_node.proofs.node.Node.lead.Goals as goal

pub invariant_of-self : goal.invariant_of-self
invariant_of-self g c =
    let n = c.self.inside in
    let leading = leading_of n.buffer n.last_txn n.synced n.peers.items in
    let r = c.args.self.now.replica in
    let up : n.home.activity.up ≡ true = ap (λ (x : Replica). x.up) (replica_is c.self.view_is) ∙ c.requires.up in
    let few = pages_are n.home _ leading r c.args.site.now.pages (replica_is c.self.view_is) c.requires.pages c.self.invariant.home in
    node_led n.home c.stand.new.self n.published n.buffer c.new.result n.buffered n.last_txn c.last_txn-last.result n.used.items c.in_ok-used.used.items c.self.invariant up
    (at_end_of n.home n.published leading r (replica_is c.self.view_is) c.self.invariant.home c.self.invariant.sixteen up c.requires.stripes) c.stand.ensures c.new.ensures
    (c.last_txn-last.ensures ∙ ap last_txn c.records-records.ensures)
    (c.in_ok-used.ensures.used ∙ (λ i. used_in (few i) (c.records-records.ensures i))) c.in_ok-used.ensures.small

pub returns-clause-after : goal.returns-clause-after
returns-clause-after g c =
    let n = c.self.inside in
    let leading = leading_of n.buffer n.last_txn n.synced n.peers.items in
    let here = here_among c.args.site.now c.args.modes.now in
    let follows : n.home.activity.follows ≡ false = follows_not n.home.activity.follows (ap (λ (r : Replica). r.state == 1) (replica_is c.self.view_is) ∙ c.requires.follows) in
    let last = c.last_txn-last.ensures ∙ ap last_txn c.records-records.ensures in
    let peers = c.in_ok-peers.ensures ∙ all_strangers c.args.modes.now in
    (λ i. node_of (c.stand.ensures i) (stripes_in (c.stand.ensures i) n.published) (leading_of (c.new.ensures i) (last i) here.store.synced (peers i)))
    ∙ (λ i. record (leads_up here (node_of n.home (stripes_in n.home n.published) leading)) { state = state_of (sym follows i) })
    ∙ ap (leads_up here) (replica_is c.self.view_is)
