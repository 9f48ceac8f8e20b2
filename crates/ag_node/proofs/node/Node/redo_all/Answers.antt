use Rattle.std.proofs.Common.{◌≡◌, false, true, refl, ap, sym, subst, length, ◌∙◌}
use Rattle.ag_rules.specs.Replica.{Replica}
use Rattle.ag_node.specs.Homes.{Home, redone_home}
use Rattle.ag_node.specs.Nodes.{leading_of, IsNode}
use Rattle.ag_node.proofs.HomesKept.{home_faults, home_redone}
use Rattle.ag_node.proofs.NodesKept.{node_follows, node_lost, redone_all}
use Rattle.ag_node.proofs.NodeSteps.{node_redone, pages_stay, redoes_nothing}
use Rattle.ag_node.proofs.SetWhere.{length-set_where}
use Rattle.ag_node.proofs.Views.{replica_is}
use Rattle.ag_node.proofs.node.Node.redo_all.Goals as goal

pub invariant_of-self : goal.invariant_of-self
invariant_of-self g c =
    let n = c.self.inside in
    node_lost n.home c.redo.new.self n.published n.buffer n.buffered n.last_txn n.used.items c.self.invariant c.in_err-lsn.ensures.lost

pub returns-clause-after : goal.returns-clause-after
returns-clause-after g c =
    let n = c.self.inside in
    let up : n.home.activity.up ≡ true = ap (λ (x : Replica). x.up) (replica_is c.self.view_is) ∙ c.requires.up in
    node_redone n.home c.redo.new.self n.published c.all_at-self-inside.result (leading_of n.buffer n.last_txn n.synced n.peers.items) c.args.self.now.replica c.args.pages c.in_ok-lsn.lsn _
    (replica_is c.self.view_is) c.requires.pages c.self.invariant.home c.self.invariant.sixteen up c.in_ok-lsn.ensures.home c.in_ok-lsn.ensures.lsn c.all_at-self-inside.ensures

pub returns-clause-writes : goal.returns-clause-writes
returns-clause-writes g c =
    let n = c.self.inside in
    redoes_nothing n.home _ (leading_of n.buffer n.last_txn n.synced n.peers.items) c.args.self.now.replica c.args.pages (replica_is c.self.view_is) c.requires.pages c.self.invariant.home

pub invariant_of-self-2 : goal.invariant_of-self-2
invariant_of-self-2 g c =
    let n = c.self.inside in
    let up : n.home.activity.up ≡ true = ap (λ (x : Replica). x.up) (replica_is c.self.view_is) ∙ c.requires.up in
    let follows : n.home.activity.leads ≡ false = ap (λ (x : Replica). x.leads) (replica_is c.self.view_is) ∙ c.requires.follows in
    let p = c.all_at-self-inside.ensures in
    subst (λ (x : Home). IsNode x c.all_at-self-inside.result n.buffer n.buffered n.last_txn n.used.items) (sym c.in_ok-lsn.ensures.home)
    (node_follows n.home _ n.published c.all_at-self-inside.result n.buffer n.buffered n.last_txn n.used.items c.self.invariant (home_faults (redone_home n.home c.in_ok-lsn.lsn) _ (home_redone n.home c.in_ok-lsn.lsn c.self.invariant.home up)) follows
    (ap length p) (λ e. redone_all _ c.all_at-self-inside.result c.in_ok-lsn.lsn refl p))

pub returns-clause-pages : goal.returns-clause-pages
returns-clause-pages g c =
    let n = c.self.inside in
    pages_stay n.home c.redo.new.self _ (leading_of n.buffer n.last_txn n.synced n.peers.items) c.args.self.now.replica (replica_is c.self.view_is) (ap (λ (x : Home). length x.dirty) c.in_ok-lsn.ensures.home ∙ length-set_where _ 16 n.home.dirty)
