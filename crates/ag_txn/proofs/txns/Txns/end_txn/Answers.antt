use Rattle.std.proofs.Common.{◌≡◌, ℕ, subst, sym, ◌∙◌}
use Rattle.std.specs.List.{AllByRecursion, filter}
use Rattle.ag_model.specs.Rows.{contains, page_numbers}
use Rattle.ag_txn.specs.Fresh.{IsPage}
use Rattle.ag_txn.proofs.Added.{passing_in}
use Rattle.ag_txn.proofs.txns.Txns.end_txn.Goals as goal

pub add_end-requires-clause-listed : goal.add_end-requires-clause-listed
add_end-requires-clause-listed c =
    let pages : ℕ = c.args.self.now.pages in
    let listed_is : c.as_slice.result.now ≡ filter (λ p. contains p c.touched_by-touched.result) (page_numbers pages) =
    c.as_slice.ensures.value ∙ c.in_ok-listed.ensures ∙ (λ i. filter (λ p. contains p c.touched_by-touched.result) (page_numbers (c.self.view_is i).pages)) in
    subst (AllByRecursion (IsPage pages)) (sym listed_is) (passing_in pages (λ p. contains p c.touched_by-touched.result))
