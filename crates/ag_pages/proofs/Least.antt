-- The least of a list that grows at its end.
use Rattle.std.proofs.Common.{◌≡◌, ℕ, ◌+◌, ◌<◌, min, List, [], ◌∷◌, ◌++◌, length, get_or, take, zero, suc, refl, ap, ◌∙◌, arith, add-one}
use Rattle.std.proofs.Math.Seq.{take-suc}
use Rattle.ag_rules.specs.Replica.{least}

min-assoc : (a b c : ℕ) → min a (min b c) ≡ min (min a b) c
min-assoc a b c = omega arith

pub least-snoc : (x : ℕ) (xs : List ℕ) (y : ℕ) → least ((x ∷ xs) ++ y ∷ []) ≡ min (least (x ∷ xs)) y
least-snoc x [] y = refl
least-snoc x (z ∷ zs) y = ap (λ (n : ℕ). min x n) (least-snoc z zs y) ∙ min-assoc x (least (z ∷ zs)) y

-- one more of a list's first
pub least-more : (xs : List ℕ) (k : ℕ) → 0 < k → k < length xs → least (take (k + 1) xs) ≡ min (least (take k xs)) (get_or xs k 0)
least-more (x ∷ xs) (suc k) some lt =
    ap (λ (n : ℕ). least (take n (x ∷ xs))) (add-one (suc k)) ∙ ap least (take-suc (x ∷ xs) (suc k) 0 lt) ∙ least-snoc x (take k xs) (get_or xs k 0)
least-more [] (suc k) some lt = absurd (omega arith)
least-more xs zero some lt = absurd (omega arith)
