use Rattle.std.proofs.Common.{◌≡◌, ◌<◌, ℕ, List, length, get_or, cond, false, true, ap, ◌∙◌, arith}
use Rattle.std.proofs.lemmas.List.{take_all}
use Rattle.ag_lists.proofs.Each.{all_at}
use Rattle.ag_model.specs.Rows.{contains}
use Rattle.ag_pages.specs.Views.{is_dirty, is_page}
use Rattle.ag_pages.proofs.Underway.{page_same, clean_more}
use Rattle.ag_pages.proofs.pages.Pages.all_cleaned.Goals as goal

pub cleaned-requires : goal.cleaned-requires
cleaned-requires c =
    let pages = c.args.pages.now in
    let i = c.loop-page.page-index in
    let lt : i < length pages = omega arith in
    page_same c.args.self.now c.loop-page.self (get_or pages i 0) c.loop-page.invariant.count (all_at (λ p. is_page c.args.self.now p ≡ true) pages i 0 c.requires lt)

pub loop-page-preserved : goal.loop-page-preserved
loop-page-preserved c =
    let pages = c.args.pages.now in
    let i = c.loop-page.page-index in
    let lt : i < length pages = omega arith in
    let inv = c.loop-page.invariant in
    let did = c.cleaned.ensures in
    record {
      count = did.count ∙ inv.count;
      applied = did.applied ∙ inv.applied;
      values = λ q. did.values q ∙ inv.values q;
      dirty = λ q. clean_more q pages i 0 (is_dirty c.args.self.now q) (is_dirty c.loop-page.self q) (is_dirty c.cleaned.new.self q) lt (inv.dirty q) (did.dirty q);
    }

pub returns-clause-dirty : goal.returns-clause-dirty
returns-clause-dirty c = λ q.
    let pages = c.args.pages.now in
    c.loop-page.invariant.dirty q ∙ ap (λ (ps : List ℕ). cond (contains q ps) false (is_dirty c.args.self.now q)) (take_all c.loop-page.page-index pages (omega arith))
