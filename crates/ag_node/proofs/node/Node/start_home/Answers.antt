use Rattle.std.proofs.Common.{◌≡◌, ℕ, length, replicate, true, false, refl, ap, sym, subst, ◌∙◌}
use Rattle.std.proofs.lemmas.List.{length-replicate}
use Rattle.ag_rules.specs.Replica.{Replica}
use Rattle.ag_node.specs.Homes.{Home, but_faults, caught_up_home, started_home, woken_home}
use Rattle.ag_node.specs.Nodes.{IsNode, leading_of}
use Rattle.ag_node.proofs.HomesKept.{home_caught_up, home_faults}
use Rattle.ag_node.proofs.NodesKept.{node_follows, redone_all}
use Rattle.ag_node.proofs.NodeSteps.{pages_stay}
use Rattle.ag_node.proofs.SetWhere.{length-set_where}
use Rattle.ag_node.proofs.StartSteps.{down_is, node_woken}
use Rattle.ag_node.proofs.Views.{replica_is}
use Rattle.ag_node.proofs.node.Node.start_home.Goals as goal

pub invariant_of-self-in-End : goal.invariant_of-self-in-End
invariant_of-self-in-End g c =
    let n = c.self.inside in
    let leading = leading_of n.buffer n.last_txn n.synced n.peers.items in
    let faults = c.start.new.self.faults in
    let home : c.start.new.self ≡ but_faults (caught_up_home (woken_home n.home)) faults = c.in_ok-start.ensures.home ∙ (λ i. but_faults (started_home n.home (c.in-End.is i)) faults) in
    let at : c.all_at-self-inside.result ≡ replicate 16 (length n.home.log.records) = c.all_at-self-inside.ensures ∙ ap (λ (k : ℕ). replicate 16 k) (c.end-end.ensures ∙ ap (λ (x : Home). length x.log.records) home) in
    let no = down_is n.home _ leading c.args.self.now.replica (replica_is c.self.view_is) c.self.invariant.home c.requires.down in
    subst (λ (x : Home). IsNode x c.all_at-self-inside.result n.buffer n.buffered n.last_txn n.used.items) (sym home)
    (node_follows n.home _ n.published c.all_at-self-inside.result n.buffer n.buffered n.last_txn n.used.items c.self.invariant (home_faults (caught_up_home (woken_home n.home)) faults (home_caught_up n.home c.self.invariant.home)) no.1
    (ap length at) (λ e. redone_all _ c.all_at-self-inside.result (length n.home.log.records) refl at))

pub returns-in-End-clause-after : goal.returns-in-End-clause-after
returns-in-End-clause-after g c =
    let n = c.self.inside in
    let leading = leading_of n.buffer n.last_txn n.synced n.peers.items in
    let faults = c.start.new.self.faults in
    let home : c.start.new.self ≡ but_faults (caught_up_home (woken_home n.home)) faults = c.in_ok-start.ensures.home ∙ (λ i. but_faults (started_home n.home (c.in-End.is i)) faults) in
    let at : c.all_at-self-inside.result ≡ replicate 16 (length n.home.log.records) = c.all_at-self-inside.ensures ∙ ap (λ (k : ℕ). replicate 16 k) (c.end-end.ensures ∙ ap (λ (x : Home). length x.log.records) home) in
    node_woken n.home c.start.new.self n.published c.all_at-self-inside.result leading c.args.self.now.replica c.args.pages faults (replica_is c.self.view_is) c.requires.pages c.self.invariant.home c.requires.down home at

pub returns-in-End-clause-pages : goal.returns-in-End-clause-pages
returns-in-End-clause-pages g c =
    let n = c.self.inside in
    let leading = leading_of n.buffer n.last_txn n.synced n.peers.items in
    let faults = c.start.new.self.faults in
    let home : c.start.new.self ≡ but_faults (caught_up_home (woken_home n.home)) faults = c.in_ok-start.ensures.home ∙ (λ i. but_faults (started_home n.home (c.in-End.is i)) faults) in
    pages_stay n.home c.start.new.self _ leading c.args.self.now.replica (replica_is c.self.view_is)
    (ap (λ (x : Home). length x.dirty) home ∙ length-set_where _ 16 (replicate n.home.pages false) ∙ length-replicate n.home.pages false ∙ sym c.self.invariant.home.each_flag)
