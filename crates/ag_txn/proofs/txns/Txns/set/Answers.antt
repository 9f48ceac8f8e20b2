use Rattle.std.proofs.Common.{◌≡◌, ◌+◌, ◌<◌, ℕ, subst, sym, ap, ◌∙◌, arith}
use Rattle.std.specs.List.{AllByRecursion, list_any}
use Rattle.ag_model.specs.Rows.{contains, touches}
use Rattle.ag_rules.specs.SetEvent.{pages_of_pairs, records_of_set}
use Rattle.ag_txn.specs.Fresh.{IsPage}
use Rattle.ag_txn.specs.View.{TxnsView}
use Rattle.ag_txn.proofs.Added.{pages_in, set_touches}
use Rattle.ag_txn.proofs.txns.Txns.set.Goals as goal

pub add_listed-requires-clause-listed : goal.add_listed-requires-clause-listed
add_listed-requires-clause-listed c =
    let pages : ℕ = c.args.self.now.pages in
    let listed_is : c.as_slice-4.result.now ≡ pages_of_pairs pages c.args.pairs.now =
    c.as_slice-4.ensures ∙ c.in_ok-listed.ensures ∙ (λ i. pages_of_pairs (c.self.view_is i).pages (c.as_slice-3.ensures i)) in
    subst (AllByRecursion (IsPage pages)) (sym listed_is) (pages_in pages c.args.pairs.now)

pub add_listed-requires-clause-touches : goal.add_listed-requires-clause-touches
add_listed-requires-clause-touches c =
    let pages : ℕ = c.args.self.now.pages in
    let txn : ℕ = c.self.inside.last_txn + 1 in
    let some : 0 < pages = omega (arith, ap (λ (v : TxnsView). v.pages) c.self.view_is, c.self.invariant.low) in
    let listed_is : c.as_slice-4.result.now ≡ pages_of_pairs pages c.args.pairs.now =
    c.as_slice-4.ensures ∙ c.in_ok-listed.ensures ∙ (λ i. pages_of_pairs (c.self.view_is i).pages (c.as_slice-3.ensures i)) in
    let new_is : c.in_ok-new.new ≡ records_of_set pages txn c.args.pairs.now =
    c.in_ok-new.ensures ∙ (λ i. records_of_set (c.self.view_is i).pages txn (c.as_slice.ensures i)) in
    λ page off. ap (list_any (touches pages page)) new_is ∙ set_touches pages txn c.args.pairs.now some page (sym (ap (contains page) listed_is) ∙ off)
