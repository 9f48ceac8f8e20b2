-- A text that is cut at a byte.
use Rattle.std.proofs.Common.{◌≡◌, ℕ, ◌+◌, ◌<◌, ◌≤◌, List, [], ◌∷◌, length, take, drop, Bool, true, false, cond, ltb, Some, None, refl, subst, arith}
use Rattle.std.specs.List.{slice_split, position_or_len}
use Rattle.std.specs.Prelude.{position}
use Rattle.std.proofs.lemmas.List.Splits.{slice_split_none, slice_split_first}
use Rattle.std.proofs.lemmas.List.Sums.{fails_before_first}
use Rattle.std.proofs.lemmas.Bool.{ltb-false, ltb-true}

some_at : (b : Bool) (n : ℕ) (at : ℕ) → cond b (Some n) None ≡ Some at → (b ≡ true) × (n ≡ at)
some_at true n at e = (refl, cc)
some_at false n at e = absurd cc

none_at : (b : Bool) (n : ℕ) → cond b (Some n) None ≡ None → b ≡ false
none_at true n e = absurd cc
none_at false n e = refl

pub cut_none : (p : ℕ → Bool) (xs : List ℕ) → position p xs ≡ None → slice_split p xs ≡ xs ∷ []
cut_none p xs e =
    let far : length xs ≤ position_or_len p xs = ltb-false _ _ (none_at (ltb (position_or_len p xs) (length xs)) (position_or_len p xs) e) in
    slice_split_none p xs (λ k d h. fails_before_first p xs k d (omega arith))

pub cut_some : (p : ℕ → Bool) (xs : List ℕ) (at : ℕ) → position p xs ≡ Some at → (at < length xs) × (slice_split p xs ≡ take at xs ∷ slice_split p (drop (at + 1) xs))
cut_some p xs at e =
    let h = some_at (ltb (position_or_len p xs) (length xs)) (position_or_len p xs) at e in
    let lt : position_or_len p xs < length xs = ltb-true _ _ h.0 in
    subst (λ (n : ℕ). (n < length xs) × (slice_split p xs ≡ take n xs ∷ slice_split p (drop (n + 1) xs))) h.1 (lt, slice_split_first p xs 0 lt)
