use Rattle.std.proofs.Common.{◌≡◌, ℕ, Bool, take}
use Rattle.std.specs.Prelude.{◌||◌}
use Rattle.ag_model.specs.Rows.{contains}
use Rattle.ag_model.specs.PageSets.{pages_where}
use Rattle.ag_revert.proofs.touching.insert_all.Given as goal

abbrev pub invariant-loop-page : goal.invariant-loop-page
invariant-loop-page l = (q : ℕ → Bool) → l.initial.set ≡ pages_where q → l.set ≡ pages_where (λ p. q p || contains p (take l.page-index l.listed))
