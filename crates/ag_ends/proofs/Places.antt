-- Numbers that rise, by their places, and what a search among them finds.
use Rattle.std.proofs.Common.{◌≡◌, ℕ, zero, suc, ◌<◌, ◌≤◌, inl, inr, true, eqb, List, [], ◌∷◌, length, get_or, refl, sym, arith}
use Rattle.std.specs.Prelude.{Ok, Err}
use Rattle.std.specs.List.Sorted.{IsBinarySearchResult}
use Rattle.std.specs.Ordering.{nat_cmp}
use Rattle.std.proofs.lemmas.Bool.{or_cases, or_left, or_right, eqb-true, eq-eqb}
use Rattle.std.proofs.lemmas.List.Sorted.{searched}
use Rattle.ag_model.specs.Proper.{RisesFrom}
use Rattle.ag_model.specs.Rows.{contains}

-- each is above the number that they rise from
pub above : (low i : ℕ) (es : List ℕ) → RisesFrom low es → i < length es → low < get_or es i 0
above low i [] p h = absurd (omega (arith, h))
above low zero (e ∷ es) p h = p.0
above low (suc i) (e ∷ es) p h = omega (arith, p.0, above e i es p.1 (omega (arith, h)))

-- of two the later one is above
pub strictly : (low i j : ℕ) (es : List ℕ) → RisesFrom low es → i < j → j < length es → get_or es i 0 < get_or es j 0
strictly low i j [] p o h = absurd (omega (arith, h))
strictly low i zero (e ∷ es) p o h = absurd (omega (arith, o))
strictly low zero (suc j) (e ∷ es) p o h = above e j es p.1 (omega (arith, h))
strictly low (suc i) (suc j) (e ∷ es) p o h = strictly e i j es p.1 (omega (arith, o)) (omega (arith, h))

-- they are in order
pub in_order : (low i j : ℕ) (es : List ℕ) → RisesFrom low es → i ≤ j → j < length es → get_or es i 0 ≤ get_or es j 0
in_order low i j [] p o h = absurd (omega (arith, h))
in_order low zero zero (e ∷ es) p o h = omega arith
in_order low zero (suc j) (e ∷ es) p o h = omega (arith, above e j es p.1 (omega (arith, h)))
in_order low (suc i) zero (e ∷ es) p o h = absurd (omega (arith, o))
in_order low (suc i) (suc j) (e ∷ es) p o h = in_order e i j es p.1 (omega (arith, o)) (omega (arith, h))

-- the place of a number that is there
pub contains-place : (n : ℕ) (es : List ℕ) → contains n es ≡ true → (i : ℕ) × (i < length es) × (get_or es i 0 ≡ n)
contains-place n [] c = absurd cc
contains-place n (e ∷ es) c = elim (or_cases (eqb n e) (contains n es) c) [
  | inl t ↦ (0, omega arith, sym (eqb-true n e t))
  | inr r ↦ (let ih = contains-place n es r in (suc ih.0, omega (arith, ih.1), ih.2))
]

-- what stands at a place is there
pub contains-at : (i : ℕ) (es : List ℕ) → i < length es → contains (get_or es i 0) es ≡ true
contains-at i [] h = absurd (omega (arith, h))
contains-at zero (e ∷ es) h = or_left (eqb e e) (contains e es) (eq-eqb e e refl)
contains-at (suc i) (e ∷ es) h = or_right (eqb (get_or es i 0) e) (contains (get_or es i 0) es) (contains-at i es (omega (arith, h)))

-- what a search finds is there
pub found : (low lsn place : ℕ) (es : List ℕ) → RisesFrom low es → IsBinarySearchResult (λ y. nat_cmp y lsn) es (Ok place)
    → (place < length es) × (get_or es place 0 ≡ lsn)
found low lsn place es p s = searched es lsn (Ok place) s (λ i j. in_order low i j es p)

-- a search that misses tells where the number would be
pub missed : (low lsn place : ℕ) (es : List ℕ) → RisesFrom low es → IsBinarySearchResult (λ y. nat_cmp y lsn) es (Err place)
    → (place ≤ length es) × ((k : ℕ) → k < place → get_or es k 0 < lsn) × ((k : ℕ) → place ≤ k → k < length es → lsn < get_or es k 0)
missed low lsn place es p s = searched es lsn (Err place) s (λ i j. in_order low i j es p)

-- and misses nothing that is there
pub not_missed : (low lsn place : ℕ) (es : List ℕ) → RisesFrom low es → contains lsn es ≡ true → IsBinarySearchResult (λ y. nat_cmp y lsn) es (Err place) → ⊥
not_missed low lsn place es p c s =
    let f = missed low lsn place es p s in
    let at = contains-place lsn es c in
    grind (arith, f.1 at.0, f.2 at.0, at.1, at.2)
