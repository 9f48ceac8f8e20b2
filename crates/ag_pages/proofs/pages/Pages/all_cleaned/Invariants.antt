use Rattle.std.proofs.Common.{◌≡◌, ℕ, take, cond, false}
use Rattle.ag_model.specs.Rows.{contains}
use Rattle.ag_pages.specs.Views.{slot, is_dirty}
use Rattle.ag_pages.proofs.pages.Pages.all_cleaned.Given as goal

-- the pages before this one are clean
abbrev pub invariant-loop-page : goal.invariant-loop-page
invariant-loop-page l = record {
  count : l.self.count ≡ l.fn.self.count;
  applied : l.self.applied ≡ l.fn.self.applied;
  values : (q : ℕ) → (slot l.self q).value ≡ (slot l.fn.self q).value;
  dirty : (q : ℕ) → is_dirty l.self q ≡ cond (contains q (take l.page-index l.pages)) false (is_dirty l.fn.self q);
}
