use Rattle.std.proofs.Common.{◌≡◌, ◌+◌, ℕ, subst, sym, ap, ◌∙◌}
use Rattle.std.specs.List.{AllByRecursion}
use Rattle.ag_txn.specs.declared.copies.FreshCopy.{FreshCopy}
use Rattle.ag_txn.specs.Fresh.{IsPage, fresh_copies}
use Rattle.ag_txn.proofs.Added.{fresh_in, records_added}
use Rattle.ag_txn.proofs.txns.Txns.add_listed.Goals as goal

pub add-requires-clause-pages : goal.add-requires-clause-pages
add-requires-clause-pages c =
    let InRange : FreshCopy → Type 0 = λ f. IsPage c.args.self.now.pages f.page in
    let fresh_is : c.in_ok-fresh.fresh.items ≡ fresh_copies c.args.self.now.pages (c.full_end-first.result + 1) c.as_slice.result.now c.args.self.now.copies c.args.listed.now =
    c.in_ok-fresh.ensures ∙ (λ i. fresh_copies (c.self.view_is i).pages (c.full_end-first.result + 1) c.as_slice.result.now (c.self.view_is i).copies c.args.listed.now) in
    subst (AllByRecursion InRange) (sym fresh_is) (fresh_in c.args.self.now.pages (c.full_end-first.result + 1) c.as_slice.result.now c.args.self.now.copies c.args.listed.now c.requires.listed)

pub returns-clause-ok : goal.returns-clause-ok
returns-clause-ok c =
    let fresh_is : c.in_ok-fresh.fresh.items ≡ fresh_copies c.args.self.now.pages (c.full_end-first.result + 1) c.args.new c.args.self.now.copies c.args.listed.now =
    c.in_ok-fresh.ensures ∙ (λ i. fresh_copies (c.self.view_is i).pages (c.full_end-first.result + 1) (c.as_slice.ensures i) (c.self.view_is i).copies c.args.listed.now) in
    c.in_ok-add.ensures.ok
    ∙ records_added c.args.self.now c.args.new c.in_ok-fresh.fresh.items c.args.listed.now (c.full_end-first.result + 1) (ap (λ (n : ℕ). n + 1) c.full_end-first.ensures)
    c.requires.listed c.requires.touches fresh_is
