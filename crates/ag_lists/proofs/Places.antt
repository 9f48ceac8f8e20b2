-- The elements of a list by their places.
use Rattle.std.proofs.Common.{◌≡◌, ◌≢◌, ◌-◌, ℕ, zero, suc, ◌<◌, ◌≤◌, List, [], ◌∷◌, ◌++◌, length, get_or, set, take, arith, ap, ◌∙◌, refl}
use Rattle.std.specs.Prelude.{replicate}

-- what holds of each element, and of the new one, holds of each after a write
pub at_set : {X : Type 0} (P : ℕ → X → Type 0) (xs : List X) (d : X) (n : ℕ) (x : X) → ((m : ℕ) → P m (get_or xs m d)) → P n x → (m : ℕ) → P m (get_or (set xs n x) m d)
at_set P [] d n x old new m = old m
at_set P (y ∷ ys) d zero x old new zero = new
at_set P (y ∷ ys) d zero x old new (suc m) = old (suc m)
at_set P (y ∷ ys) d (suc n) x old new zero = old zero
at_set P (y ∷ ys) d (suc n) x old new (suc m) = at_set (λ k. P (suc k)) ys d n x (λ k. old (suc k)) new m

-- the same where the others are known alone, and the element is there
pub at_set_there : {X : Type 0} (P : ℕ → X → Type 0) (xs : List X) (d : X) (n : ℕ) (x : X) → n < length xs → ((m : ℕ) → m ≢ n → P m (get_or xs m d)) → P n x → (m : ℕ) → P m (get_or (set xs n x) m d)
at_set_there P [] d n x h old new m = absurd (omega arith)
at_set_there P (y ∷ ys) d zero x h old new zero = new
at_set_there P (y ∷ ys) d zero x h old new (suc m) = old (suc m) (λ e. omega arith)
at_set_there P (y ∷ ys) d (suc n) x h old new zero = old zero (λ e. omega arith)
at_set_there P (y ∷ ys) d (suc n) x h old new (suc m) = at_set_there (λ k. P (suc k)) ys d n x (omega arith) (λ k p. old (suc k) (λ e. p (omega arith))) new m

-- each element of equal ones, and the default
pub at_replicate : {X : Type 0} (P : X → Type 0) (k : ℕ) (x d : X) (n : ℕ) → P d → P x → P (get_or (replicate k x) n d)
at_replicate P zero x d n p q = p
at_replicate P (suc k) x d zero p q = q
at_replicate P (suc k) x d (suc n) p q = at_replicate P k x d n p q

-- inside a list the default does not matter
pub same_at : {X : Type 0} (xs : List X) (i : ℕ) (d e : X) → i < length xs → get_or xs i d ≡ get_or xs i e
same_at [] i d e lt = absurd (omega arith)
same_at (x ∷ xs) zero d e lt = refl
same_at (x ∷ xs) (suc i) d e lt = same_at xs i d e (omega arith)

-- the front of two lists, past the first
pub take_past : {X : Type 0} (n : ℕ) (xs ys : List X) → length xs ≤ n → take n (xs ++ ys) ≡ xs ++ take (n - length xs) ys
take_past n [] ys le = ap (λ k. take k ys) (omega arith)
take_past zero (x ∷ xs) ys le = absurd (omega arith)
take_past (suc n) (x ∷ xs) ys le = ap (λ zs. x ∷ zs) (take_past n xs ys (omega arith) ∙ ap (λ k. xs ++ take k ys) (omega arith))
