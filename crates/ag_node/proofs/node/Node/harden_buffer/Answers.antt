use Rattle.std.proofs.Common.{◌≡◌, ◌==◌, ◌+◌, ◌<◌, length, true, false, refl, ap, sym, subst, ◌∙◌}
use Rattle.std.specs.Prelude.{if◌then◌else◌}
use Rattle.std.proofs.lemmas.List.{length-append}
use Rattle.ag_record.specs.Spelling.{ArePayload}
use Rattle.ag_rules.specs.Plan.{Block_write}
use Rattle.ag_rules.specs.Replica.{Replica, fallen}
use Rattle.ag_logstore.proofs.Fitting.{payload_buffer, payload_some}
use Rattle.ag_node.specs.Homes.{Home, but_faults, down_home, hardened_home, redone_home, with_more}
use Rattle.ag_node.specs.Nodes.{IsNode, leading_of}
use Rattle.ag_node.specs.Reaching.{kept_of_write}
use Rattle.ag_node.specs.View.{node_of, stripes_in}
use Rattle.ag_node.proofs.HomeSteps.{failed_block, home_stopped, stopped_block}
use Rattle.ag_node.proofs.NodesKept.{node_after_harden, node_emptied}
use Rattle.ag_node.proofs.NodeSteps.{node_hardened, pages_stay}
use Rattle.ag_node.proofs.SetWhere.{length-set_where}
use Rattle.ag_node.proofs.Views.{replica_is}
use Rattle.ag_node.proofs.node.Node.harden_buffer.Goals as goal

pub harden-requires-clause-payload : goal.harden-requires-clause-payload
harden-requires-clause-payload g c =
    let n = c.self.inside in
    subst ArePayload (sym c.replace.ensures.value)
    (payload_buffer n.buffer n.buffered c.self.invariant.fits (ap (λ (x : Replica). length x.leading.buffer == 0) (replica_is c.self.view_is) ∙ c.requires.some) c.self.invariant.counted c.self.invariant.most)

pub invariant_of-self-in-End : goal.invariant_of-self-in-End
invariant_of-self-in-End g c =
    let n = c.self.inside in
    let up : n.home.activity.up ≡ true = ap (λ (x : Replica). x.up) (replica_is c.self.view_is) ∙ c.requires.up in
    let payload = payload_buffer n.buffer n.buffered c.self.invariant.fits (ap (λ (x : Replica). length x.leading.buffer == 0) (replica_is c.self.view_is) ∙ c.requires.some) c.self.invariant.counted c.self.invariant.most in
    let grown : c.harden.new.self ≡ but_faults (with_more n.home n.buffer) c.harden.new.self.faults
    = c.in_ok-harden.ensures.home ∙ (λ i. but_faults (hardened_home n.home c.replace.result (c.in-End.is i)) c.harden.new.self.faults) ∙ (λ i. but_faults (with_more n.home (c.replace.ensures.value i)) c.harden.new.self.faults) in
    let home = c.in_ok-end-in-End.ensures.home ∙ (λ i. but_faults (redone_home (grown i) c.in_ok-end-in-End.end) c.redo.new.self.faults) in
    let end : c.in_ok-end-in-End.end ≡ length n.home.log.records + length n.buffer = c.in_ok-end-in-End.ensures.lsn ∙ ap (λ (x : Home). length x.log.records) grown ∙ length-append n.home.log.records n.buffer in
    node_after_harden n.home n.published c.all_at-self-inside.result n.buffer c.replace.new.dest n.buffered n.last_txn c.in_ok-end-in-End.end _ n.used.items c.redo.new.self c.self.invariant (payload_some n.buffer payload) up home end c.all_at-self-inside.ensures (c.replace.ensures.after ∙ c.new.ensures)

pub returns-in-End-clause-after : goal.returns-in-End-clause-after
returns-in-End-clause-after g c =
    let n = c.self.inside in
    let leading = leading_of n.buffer n.last_txn n.synced n.peers.items in
    let r = c.args.self.now.replica in
    let up : n.home.activity.up ≡ true = ap (λ (x : Replica). x.up) (replica_is c.self.view_is) ∙ c.requires.up in
    let leads : n.home.activity.leads ≡ true = ap (λ (x : Replica). x.leads) (replica_is c.self.view_is) ∙ c.requires.leads in
    let grown : c.harden.new.self ≡ but_faults (with_more n.home n.buffer) c.harden.new.self.faults
    = c.in_ok-harden.ensures.home ∙ (λ i. but_faults (hardened_home n.home c.replace.result (c.in-End.is i)) c.harden.new.self.faults) ∙ (λ i. but_faults (with_more n.home (c.replace.ensures.value i)) c.harden.new.self.faults) in
    let home = c.in_ok-end-in-End.ensures.home ∙ (λ i. but_faults (redone_home (grown i) c.in_ok-end-in-End.end) c.redo.new.self.faults) in
    let end : c.in_ok-end-in-End.end ≡ length n.home.log.records + length n.buffer = c.in_ok-end-in-End.ensures.lsn ∙ ap (λ (x : Home). length x.log.records) grown ∙ length-append n.home.log.records n.buffer in
    let emptied = c.replace.ensures.after ∙ c.new.ensures in
    (λ i. node_of c.redo.new.self (stripes_in c.redo.new.self c.all_at-self-inside.result) (leading_of (emptied i) n.last_txn n.synced n.peers.items))
    ∙ node_hardened n.home c.redo.new.self n.published c.all_at-self-inside.result leading r c.args.pages c.in_ok-end-in-End.end _ (replica_is c.self.view_is) c.requires.pages c.self.invariant.home up (c.self.invariant.ahead leads) home end c.all_at-self-inside.ensures

pub returns-in-End-clause-pages : goal.returns-in-End-clause-pages
returns-in-End-clause-pages g c =
    let n = c.self.inside in
    let grown : c.harden.new.self ≡ but_faults (with_more n.home n.buffer) c.harden.new.self.faults
    = c.in_ok-harden.ensures.home ∙ (λ i. but_faults (hardened_home n.home c.replace.result (c.in-End.is i)) c.harden.new.self.faults) ∙ (λ i. but_faults (with_more n.home (c.replace.ensures.value i)) c.harden.new.self.faults) in
    let home = c.in_ok-end-in-End.ensures.home ∙ (λ i. but_faults (redone_home (grown i) c.in_ok-end-in-End.end) c.redo.new.self.faults) in
    pages_stay n.home c.redo.new.self _ (leading_of n.buffer n.last_txn n.synced n.peers.items) c.args.self.now.replica (replica_is c.self.view_is) (ap (λ (x : Home). length x.dirty) home ∙ length-set_where _ 16 n.home.dirty)

pub invariant_of-self-in-Stop : goal.invariant_of-self-in-Stop
invariant_of-self-in-Stop g c =
    let n = c.self.inside in
    let whole = c.in-Stop.whole in
    let payload = payload_buffer n.buffer n.buffered c.self.invariant.fits (ap (λ (x : Replica). length x.leading.buffer == 0) (replica_is c.self.view_is) ∙ c.requires.some) c.self.invariant.counted c.self.invariant.most in
    let home : c.harden.new.self ≡ but_faults (down_home (if whole then with_more n.home n.buffer else n.home)) c.harden.new.self.faults
    = c.in_ok-harden.ensures.home ∙ (λ i. but_faults (hardened_home n.home c.replace.result (c.in-Stop.is i)) c.harden.new.self.faults) ∙ (λ i. but_faults (down_home (if whole then with_more n.home (c.replace.ensures.value i) else n.home)) c.harden.new.self.faults) in
    subst (λ (x : Home). IsNode x n.published c.replace.new.dest 0 n.last_txn n.used.items) (sym home)
    (node_emptied n.home _ n.published n.published n.buffer c.replace.new.dest n.buffered n.last_txn n.last_txn n.used.items c.self.invariant (home_stopped n.home n.buffer whole _ c.self.invariant.home (payload_some n.buffer payload) c.self.invariant.whole) refl c.self.invariant.sixteen (λ e. absurd cc) (c.replace.ensures.after ∙ c.new.ensures))

pub returns-in-Stop-clause-after : goal.returns-in-Stop-clause-after
returns-in-Stop-clause-after g c =
    let n = c.self.inside in
    let whole = c.in-Stop.whole in
    let r = c.args.self.now.replica in
    let home : c.harden.new.self ≡ but_faults (down_home (if whole then with_more n.home n.buffer else n.home)) c.harden.new.self.faults
    = c.in_ok-harden.ensures.home ∙ (λ i. but_faults (hardened_home n.home c.replace.result (c.in-Stop.is i)) c.harden.new.self.faults) ∙ (λ i. but_faults (down_home (if whole then with_more n.home (c.replace.ensures.value i) else n.home)) c.harden.new.self.faults) in
    c.fall.ensures.after
    ∙ stopped_block n.home c.harden.new.self n.published (leading_of n.buffer n.last_txn n.synced n.peers.items) (leading_of c.replace.new.dest n.last_txn n.synced n.peers.items) n.buffer whole r _ (replica_is c.self.view_is) c.self.invariant.home home
    ∙ (λ i. fallen r (kept_of_write whole r.kept (Block_write (replica_is c.self.view_is i).leading.buffer)))

pub returns-clause-after : goal.returns-clause-after
returns-clause-after g c =
    let n = c.self.inside in
    c.fall-in-Fault.ensures.after
    ∙ failed_block n.home c.harden.new.self n.published (leading_of n.buffer n.last_txn n.synced n.peers.items) (leading_of c.replace.new.dest n.last_txn n.synced n.peers.items) c.args.self.now.replica _ (replica_is c.self.view_is) c.self.invariant.home
    (c.in_ok-harden.ensures.home ∙ (λ i. but_faults (hardened_home n.home c.replace.result (c.in-Fault.is i)) c.harden.new.self.faults))
