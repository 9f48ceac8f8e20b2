use Rattle.std.proofs.Common.{◌≡◌, ◌≤◌, ◌<◌, ℕ, get_or, true, sym, ap, subst, ◌∙◌, arith}
use Rattle.std.proofs.lemmas.Nat.{mod_below}
use Rattle.ag_model.specs.Page.{value}
use Rattle.ag_model.specs.Rows.{page_of, stripe_of}
use Rattle.ag_rules.specs.Replica.{Replica, least}
use Rattle.ag_store.specs.Asking.{IsTooOldBy}
use Rattle.ag_store.specs.declared.fault.ReadFault.{ReadFault}
use Rattle.ag_node.specs.Sites.{here_at}
use Rattle.ag_node.specs.Nodes.{leading_of}
use Rattle.ag_node.proofs.NodeSteps.{front_shown, horizon_is, pages_are, read_left, read_nothing, read_row, read_too_old}
use Rattle.ag_node.proofs.StripesOf.{least_below}
use Rattle.ag_node.proofs.Views.{on_ok, replica_is}
use Rattle.ag_node.proofs.node.Node.row_at_front.Goals.{in-Ok, in-Err-TooOld, in-Err-Gave}
use Rattle.ag_node.proofs.node.Node.row_at_front.Goals as goal

pub row_at-requires-clause-redone : goal.row_at-requires-clause-redone
row_at-requires-clause-redone g c =
    let n = c.self.inside in
    let up : n.home.activity.up ≡ true = ap (λ (x : Replica). x.up) (replica_is c.self.view_is) ∙ c.requires.up in
    let s : ℕ = stripe_of (page_of n.home.pages c.args.key) in
    let few : s < 16 = mod_below (page_of n.home.pages c.args.key) 16 (omega arith) in
    let below : least n.published ≤ get_or n.published s 0 = least_below n.published s (omega (arith, few, c.self.invariant.sixteen)) in
    omega (arith, c.front-front.ensures, below, c.self.invariant.redone up s)

pub returns-clause-answer : goal.returns-clause-answer
returns-clause-answer g c =
    let n = c.self.inside in
    let home = c.self.invariant.home in
    let r = c.args.self.now.replica in
    let here = here_at c.args.site.now in
    let leading = leading_of n.buffer n.last_txn n.synced n.peers.items in
    let up : n.home.activity.up ≡ true = ap (λ (x : Replica). x.up) (replica_is c.self.view_is) ∙ c.requires.up in
    let front = c.front-front.ensures ∙ front_shown n.home n.published home c.self.invariant.sixteen up in
    let few : here.pages ≡ n.home.pages = pages_are n.home _ leading r here.pages (replica_is c.self.view_is) c.requires.pages home in
    let horizon = horizon_is n.home n.published leading r here.pages c.args.key (replica_is c.self.view_is) home c.self.invariant.sixteen up few in
    let page : ℕ = page_of n.home.pages c.args.key in
    let limit : ℕ = (value n.home.pages n.home.log.records (get_or n.home.applied (stripe_of page) 0) page).horizon in
    elim c.match-row_at.branch [
      | in-Ok w ↦ rw w.result-is (w.row_answer.ensures ∙ read_row n.home _ leading r here c.args.key c.front-front.result _ w.in-Ok.row (replica_is c.self.view_is) home front horizon w.in-Ok.ensures.young w.in-Ok.ensures.row)
      | in-Err-TooOld w ↦
          let old = subst (λ (x : ReadFault). IsTooOldBy c.front-front.result limit x) w.in-Err-TooOld.field-0-is w.in-Err-TooOld.ensures.too_old in
          rw w.result-is (read_too_old n.home _ leading r here c.args.key w.in-Err-TooOld.snapshot w.in-Err-TooOld.horizon (replica_is c.self.view_is) home (old.0 ∙ front) (old.1 ∙ horizon) (omega (arith, old.0, old.1, old.2)))
      | in-Err-Gave w ↦ rw w.result-is tt
    ]

pub returns-clause-left : goal.returns-clause-left
returns-clause-left g c =
    let n = c.self.inside in
    on_ok c.match-row_at.result (read_left n.home _ (leading_of n.buffer n.last_txn n.synced n.peers.items) c.args.self.now.replica (here_at c.args.site.now) c.args.key (replica_is c.self.view_is) c.self.invariant.home)

pub returns-clause-writes : goal.returns-clause-writes
returns-clause-writes g c =
    let n = c.self.inside in
    on_ok c.match-row_at.result (read_nothing n.home _ (leading_of n.buffer n.last_txn n.synced n.peers.items) c.args.self.now.replica (here_at c.args.site.now) c.args.key (replica_is c.self.view_is) c.self.invariant.home)
