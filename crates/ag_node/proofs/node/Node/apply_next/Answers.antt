use Rattle.std.proofs.Common.{◌≡◌, ◌≤◌, get_or, length, false, true, ap, sym, subst, ◌∙◌, arith}
use Rattle.ag_model.specs.Blocks.{next_end}
use Rattle.ag_rules.specs.Replica.{Replica}
use Rattle.ag_logstore.proofs.LogEnds.{next_least}
use Rattle.ag_node.specs.Homes.{Home, applied_home}
use Rattle.ag_node.specs.Nodes.{leading_of, IsNode}
use Rattle.ag_node.proofs.HomesKept.{home_applied, home_faults}
use Rattle.ag_node.proofs.NodesKept.{node_follows, node_lost, redone_more}
use Rattle.ag_node.proofs.NodeSteps.{applies_nothing, next_is, node_applied, pages_stay}
use Rattle.ag_node.proofs.SetWhere.{length-set_where}
use Rattle.ag_node.proofs.Views.{replica_is}
use Rattle.ag_node.proofs.node.Node.apply_next.Goals as goal

pub invariant_of-self : goal.invariant_of-self
invariant_of-self g c =
    let n = c.self.inside in
    node_lost n.home c.apply_next.new.self n.published n.buffer n.buffered n.last_txn n.used.items c.self.invariant c.in_err-lsn.ensures.lost

pub returns-clause-lsn : goal.returns-clause-lsn
returns-clause-lsn g c =
    let n = c.self.inside in
    let up : n.home.activity.up ≡ true = ap (λ (x : Replica). x.up) (replica_is c.self.view_is) ∙ c.requires.up in
    c.in_ok-lsn.ensures.lsn ∙ next_is n.home n.published (leading_of n.buffer n.last_txn n.synced n.peers.items) c.args.self.now.replica c.args.x (replica_is c.self.view_is) c.self.invariant.home c.self.invariant.sixteen up

pub returns-clause-after : goal.returns-clause-after
returns-clause-after g c =
    let n = c.self.inside in
    let up : n.home.activity.up ≡ true = ap (λ (x : Replica). x.up) (replica_is c.self.view_is) ∙ c.requires.up in
    let leading = leading_of n.buffer n.last_txn n.synced n.peers.items in
    node_applied n.home c.apply_next.new.self n.published leading c.args.self.now.replica c.args.pages c.args.x c.in_ok-lsn.lsn _
    (replica_is c.self.view_is) c.requires.pages c.self.invariant.home c.self.invariant.sixteen up c.in_ok-lsn.ensures.home
    (c.in_ok-lsn.ensures.lsn ∙ next_is n.home n.published leading c.args.self.now.replica c.args.x (replica_is c.self.view_is) c.self.invariant.home c.self.invariant.sixteen up)

pub returns-clause-writes : goal.returns-clause-writes
returns-clause-writes g c =
    let n = c.self.inside in
    applies_nothing n.home _ (leading_of n.buffer n.last_txn n.synced n.peers.items) c.args.self.now.replica c.args.pages c.args.x (replica_is c.self.view_is) c.requires.pages c.self.invariant.home

pub invariant_of-self-2 : goal.invariant_of-self-2
invariant_of-self-2 g c =
    let n = c.self.inside in
    let up : n.home.activity.up ≡ true = ap (λ (x : Replica). x.up) (replica_is c.self.view_is) ∙ c.requires.up in
    let follows : n.home.activity.leads ≡ false = ap (λ (x : Replica). x.leads) (replica_is c.self.view_is) ∙ c.requires.follows in
    let later : get_or n.home.applied c.args.x 0 ≤ c.in_ok-lsn.lsn = omega (arith, c.in_ok-lsn.ensures.lsn, next_least (get_or n.home.applied c.args.x 0) n.home.log.ends) in
    subst (λ (x : Home). IsNode x n.published n.buffer n.buffered n.last_txn n.used.items) (sym c.in_ok-lsn.ensures.home)
    (node_follows n.home _ n.published n.published n.buffer n.buffered n.last_txn n.used.items c.self.invariant (home_faults (applied_home n.home c.args.x c.in_ok-lsn.lsn) _ (home_applied n.home c.args.x c.in_ok-lsn.lsn c.self.invariant.home up)) follows
    c.self.invariant.sixteen (λ e. redone_more n.home.applied n.published c.args.x c.in_ok-lsn.lsn (c.self.invariant.redone up) later))

pub returns-clause-pages : goal.returns-clause-pages
returns-clause-pages g c =
    let n = c.self.inside in
    pages_stay n.home c.apply_next.new.self _ (leading_of n.buffer n.last_txn n.synced n.peers.items) c.args.self.now.replica (replica_is c.self.view_is) (ap (λ (x : Home). length x.dirty) c.in_ok-lsn.ensures.home ∙ length-set_where _ 16 n.home.dirty)
