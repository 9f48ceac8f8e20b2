-- The least of some numbers, one after the other.
use Rattle.std.proofs.Common.{◌≡◌, ℕ, min, List, [], ◌∷◌, ◌++◌, refl, sym, ap, ◌∙◌, arith}
use Rattle.std.specs.List.{fold}
use Rattle.ag_rules.specs.Replica.{least}

min-fold : (x y : ℕ) (ys : List ℕ) → min x (fold min y ys) ≡ fold min (min x y) ys
min-fold x y [] = refl
min-fold x y (z ∷ ys) = min-fold x (min y z) ys ∙ ap (λ v. fold min v ys) (omega arith)

-- the least by a fold
pub least-fold : (x : ℕ) (xs : List ℕ) → least (x ∷ xs) ≡ fold min x xs
least-fold x [] = refl
least-fold x (y ∷ ys) = ap (min x) (least-fold y ys) ∙ min-fold x y ys

fold-both : (x : ℕ) (xs ys : List ℕ) → fold min x (xs ++ ys) ≡ fold min (fold min x xs) ys
fold-both x [] ys = refl
fold-both x (y ∷ xs) ys = fold-both (min x y) xs ys

-- the least of some numbers stands for all of them
pub least-some : (x y : ℕ) (ys zs : List ℕ) → least (x ∷ y ∷ ys ++ zs) ≡ least (x ∷ least (y ∷ ys) ∷ zs)
least-some x y ys zs =
    least-fold x (y ∷ ys ++ zs) ∙ fold-both (min x y) ys zs ∙ ap (λ v. fold min v zs) (sym (min-fold x y ys) ∙ ap (min x) (sym (least-fold y ys)))
    ∙ sym (least-fold x (least (y ∷ ys) ∷ zs))
