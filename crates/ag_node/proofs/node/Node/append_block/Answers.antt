use Rattle.std.proofs.Common.{◌≡◌, List, length, false, true, refl, ap, subst, sym, ◌∙◌}
use Rattle.std.specs.Prelude.{if◌then◌else◌}
use Rattle.ag_model.specs.declared.record.Record.{Record}
use Rattle.ag_model.specs.Proper.{IsProper}
use Rattle.ag_model.specs.Blocks.{with_block}
use Rattle.ag_rules.specs.Replica.{Replica}
use Rattle.ag_logstore.proofs.Fitting.{payload_some}
use Rattle.ag_kept.specs.declared.reach.Reach.TheVariants.{End, Stop, Fault}
use Rattle.ag_node.specs.Homes.{Home, hardened_home, with_more, down_home, but_faults}
use Rattle.ag_node.specs.Nodes.{IsNode, leading_of}
use Rattle.ag_node.proofs.HomesKept.{home_faults, home_more}
use Rattle.ag_node.proofs.HomeSteps.{failed_block, home_stopped, stopped_block}
use Rattle.ag_node.proofs.NodesKept.{node_follows, node_lost}
use Rattle.ag_node.proofs.NodeSteps.{pages_are}
use Rattle.ag_node.proofs.Views.{replica_is}
use Rattle.ag_node.proofs.node.Node.append_block.Goals as goal

pub harden-requires-clause-proper : goal.harden-requires-clause-proper
harden-requires-clause-proper g c =
    let n = c.self.inside in
    let r = c.args.self.now.replica in
    let few : length r.pages ≡ n.home.pages = pages_are n.home _ (leading_of n.buffer n.last_txn n.synced n.peers.items) r (length r.pages) (replica_is c.self.view_is) refl c.self.invariant.home in
    subst (λ k. IsProper k (with_block n.home.log c.args.block.now.records)) few
    (subst (λ (x : Replica). IsProper (length r.pages) (with_block x.kept.log c.args.block.now.records)) (sym (replica_is c.self.view_is)) c.requires.proper)

pub invariant_of-self : goal.invariant_of-self
invariant_of-self g c =
    let n = c.self.inside in
    node_lost n.home c.harden.new.self n.published n.buffer n.buffered n.last_txn n.used.items c.self.invariant c.in_err-harden.ensures.lost

pub invariant_of-self-in-End : goal.invariant_of-self-in-End
invariant_of-self-in-End g c =
    let n = c.self.inside in
    let new : List Record = c.args.block.now.records in
    let follows : n.home.activity.leads ≡ false = ap (λ (x : Replica). x.leads) (replica_is c.self.view_is) ∙ c.requires.follows in
    let home : c.harden.new.self ≡ but_faults (with_more n.home new) c.harden.new.self.faults = c.in_ok-harden.ensures.home ∙ (λ i. but_faults (hardened_home n.home new (c.in-End.is i)) c.harden.new.self.faults) in
    subst (λ (x : Home). IsNode x n.published n.buffer n.buffered n.last_txn n.used.items) (sym home)
    (node_follows n.home _ n.published n.published n.buffer n.buffered n.last_txn n.used.items c.self.invariant
    (home_faults (with_more n.home new) _ (home_more n.home new c.self.invariant.home (payload_some new c.requires.fits) c.requires.whole)) follows c.self.invariant.sixteen c.self.invariant.redone)

pub invariant_of-self-in-Stop : goal.invariant_of-self-in-Stop
invariant_of-self-in-Stop g c =
    let n = c.self.inside in
    let new : List Record = c.args.block.now.records in
    let whole = c.in-Stop.whole in
    let home = c.in_ok-harden.ensures.home ∙ (λ i. but_faults (hardened_home n.home new (c.in-Stop.is i)) c.harden.new.self.faults) in
    subst (λ (x : Home). IsNode x n.published n.buffer n.buffered n.last_txn n.used.items) (sym home)
    (node_follows n.home _ n.published n.published n.buffer n.buffered n.last_txn n.used.items c.self.invariant (home_stopped n.home new whole _ c.self.invariant.home (payload_some new c.requires.fits) c.requires.whole) refl c.self.invariant.sixteen (λ e. absurd cc))

pub invariant_of-self-in-Fault : goal.invariant_of-self-in-Fault
invariant_of-self-in-Fault g c =
    let n = c.self.inside in
    let new : List Record = c.args.block.now.records in
    let home = c.in_ok-harden.ensures.home ∙ (λ i. but_faults (hardened_home n.home new (c.in-Fault.is i)) c.harden.new.self.faults) in
    subst (λ (x : Home). IsNode x n.published n.buffer n.buffered n.last_txn n.used.items) (sym home)
    (node_follows n.home _ n.published n.published n.buffer n.buffered n.last_txn n.used.items c.self.invariant (home_stopped n.home new false _ c.self.invariant.home (payload_some new c.requires.fits) c.requires.whole) refl c.self.invariant.sixteen (λ e. absurd cc))

pub returns-in-Stop-clause-after : goal.returns-in-Stop-clause-after
returns-in-Stop-clause-after g c =
    let n = c.self.inside in
    let new : List Record = c.args.block.now.records in
    let whole = c.in-Stop.whole in
    let leading = leading_of n.buffer n.last_txn n.synced n.peers.items in
    c.fall.ensures.after
    ∙ stopped_block n.home c.harden.new.self n.published leading leading new whole c.args.self.now.replica _ (replica_is c.self.view_is) c.self.invariant.home
    (c.in_ok-harden.ensures.home ∙ (λ i. but_faults (hardened_home n.home new (c.in-Stop.is i)) c.harden.new.self.faults))

pub returns-in-Fault-clause-after : goal.returns-in-Fault-clause-after
returns-in-Fault-clause-after g c =
    let n = c.self.inside in
    let new : List Record = c.args.block.now.records in
    let leading = leading_of n.buffer n.last_txn n.synced n.peers.items in
    c.fall-in-Fault.ensures.after
    ∙ failed_block n.home c.harden.new.self n.published leading leading c.args.self.now.replica _ (replica_is c.self.view_is) c.self.invariant.home
    (c.in_ok-harden.ensures.home ∙ (λ i. but_faults (hardened_home n.home new (c.in-Fault.is i)) c.harden.new.self.faults))
