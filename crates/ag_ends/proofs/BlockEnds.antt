-- Where a block starts and ends, among ends that rise.
use Rattle.std.proofs.Common.{◌≡◌, ◌≢◌, ℕ, zero, suc, ◌+◌, ◌<◌, ◌≤◌, List, [], ◌∷◌, length, get_or, refl, sym, ap, ◌∙◌, arith}
use Rattle.std.specs.Prelude.{Option, Some, None, Ok, Err, if◌then◌else◌, ◌==◌}
use Rattle.std.specs.List.{slice_get, HoldsAt}
use Rattle.std.specs.List.Sorted.{IsBinarySearchResult}
use Rattle.std.specs.Option.{MatchOption, option_copied}
use Rattle.std.specs.Borrow.{Bor}
use Rattle.std.specs.Ordering.{nat_cmp}
use Rattle.std.proofs.lemmas.Option.{slice_get_past, slice_get-get_or}
use Rattle.ag_model.specs.Blocks.{end_of_block}
use Rattle.ag_model.specs.Proper.{RisesFrom}
use Rattle.ag_lists.proofs.Tests.{by_bool}
use Rattle.ag_ends.proofs.Places.{above, found, missed}

-- the first block
pub first_block : (low : ℕ) (es : List ℕ) → end_of_block low (low + 1) es ≡ slice_get es 0
first_block low [] = refl
first_block low (e ∷ es) =
    by_bool (low + 1 == low + 1) (λ v. (if v then Some e else end_of_block e (low + 1) es) ≡ Some e)
    (λ _. refl)
    (λ f. absurd (grind (arith, f)))

-- the block after an end
pub next_block : (low i : ℕ) (es : List ℕ) → RisesFrom low es → i < length es → end_of_block low (get_or es i 0 + 1) es ≡ slice_get es (suc i)
next_block low i [] p h = absurd (omega (arith, h))
next_block low zero (e ∷ es) p h =
    by_bool (e + 1 == low + 1) (λ v. (if v then Some e else end_of_block e (e + 1) es) ≡ slice_get es 0)
    (λ t. absurd (grind (arith, t, p.0)))
    (λ _. first_block e es)
next_block low (suc i) (e ∷ es) p h =
    let more : e < get_or es i 0 = above e i es p.1 (omega (arith, h)) in
    by_bool (get_or es i 0 + 1 == low + 1) (λ v. (if v then Some e else end_of_block e (get_or es i 0 + 1) es) ≡ slice_get es (suc i))
    (λ t. absurd (grind (arith, t, p.0, more)))
    (λ _. next_block e i es p.1 (omega (arith, h)))

-- no block starts after an LSN where none ends
pub no_block : (low before : ℕ) (es : List ℕ) → low ≢ before → ((k : ℕ) → k < length es → get_or es k 0 ≢ before) → end_of_block low (before + 1) es ≡ None
no_block low before [] n p = refl
no_block low before (e ∷ es) n p =
    by_bool (before + 1 == low + 1) (λ v. (if v then Some e else end_of_block e (before + 1) es) ≡ None)
    (λ t. absurd (n (grind (arith, t))))
    (λ _. no_block e before es (p 0 (omega arith)) (λ k h. p (suc k) (omega (arith, h))))

-- no block starts at LSN 0
pub none_at_zero : (low : ℕ) (es : List ℕ) → end_of_block low 0 es ≡ None
none_at_zero low [] = refl
none_at_zero low (e ∷ es) =
    by_bool (0 == low + 1) (λ v. (if v then Some e else end_of_block e 0 es) ≡ None)
    (λ t. absurd (grind (arith, t)))
    (λ _. none_at_zero e es)

-- what a search finds at an end
pub searched_end : (es : List ℕ) (before place : ℕ) → RisesFrom 0 es → IsBinarySearchResult (λ y. nat_cmp y before) es (Ok place)
    → end_of_block 0 (before + 1) es ≡ slice_get es (place + 1)
searched_end es before place p s =
    let f = found 0 before place es p s in
    let e : place + 1 ≡ suc place = omega arith in
    rw (e, ← f.1) (next_block 0 place es p f.0)

-- what it says where no block ends
pub searched_none : (es : List ℕ) (before place : ℕ) → RisesFrom 0 es → before ≢ 0 → IsBinarySearchResult (λ y. nat_cmp y before) es (Err place)
    → end_of_block 0 (before + 1) es ≡ None
searched_none es before place p z s =
    let f = missed 0 before place es p s in
    no_block 0 before es (λ e. z (sym e)) (λ k h e. grind (arith, f.1 k, f.2 k, e, h))

-- what `get` finds
pub got : (es : List ℕ) (i : ℕ) (r : Option (Bor ℕ)) → MatchOption r (length es ≤ i) (λ x. (i < length es) × HoldsAt (λ y. x.now ≡ y) es i) → option_copied r ≡ slice_get es i
got es i None h = sym (slice_get_past es i h)
got es i (Some x) h = ap Some (h.1 0) ∙ sym (slice_get-get_or es i 0 h.0)
