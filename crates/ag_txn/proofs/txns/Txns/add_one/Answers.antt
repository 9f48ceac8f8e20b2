use Rattle.std.proofs.Common.{◌≡◌, ◌+◌, ◌++◌, ◌∷◌, [], length, ℕ, List, subst, ap, ◌∙◌}
use Rattle.ag_txn.specs.declared.copies.FreshCopy.{FreshCopy}
use Rattle.ag_txn.specs.View.{TxnsView, page_after_all, seen}
use Rattle.ag_txn.proofs.Added.{one_added}
use Rattle.ag_txn.proofs.txns.Txns.add_one.Goals as goal

pub returns-clause-added : goal.returns-clause-added
returns-clause-added c =
    let t : TxnsView = c.args.self.now in
    let lsn : ℕ = c.full_end-lsn.result + 1 in
    let page : ℕ = c.args.page.now.page in
    let long : length t.copies ≡ t.pages = subst (λ (v : TxnsView). length v.copies ≡ v.pages) c.self.view_is c.self.invariant.slots in
    let copy_is : c.in_ok-copy.copy ≡ page_after_all t.pages lsn c.in_ok-new.new page (seen t c.args.page.now) =
    c.in_ok-copy.ensures ∙ (λ i. page_after_all (c.self.view_is i).pages lsn (c.as_slice.ensures i) page (c.seen-seen.ensures i)) in
    let fresh_is : c.push.new.self.items ≡ record { page = page; copy = c.in_ok-copy.copy } ∷ [] =
    c.in_ok-push.ensures.items ∙ ap (λ (l : List FreshCopy). l ++ record { page = page; copy = c.in_ok-copy.copy } ∷ []) c.new-fresh.ensures.items in
    c.in_ok-add.ensures.ok
    ∙ one_added t c.args.page.now c.args.entry c.in_ok-new.new c.push.new.self.items c.in_ok-copy.copy lsn long c.requires.page c.requires.touches
    (ap (λ (n : ℕ). n + 1) c.full_end-lsn.ensures) c.in_ok-new.ensures copy_is fresh_is
