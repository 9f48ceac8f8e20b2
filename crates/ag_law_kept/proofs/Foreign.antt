-- Lists of pages where some are left, and where none is.
use Rattle.std.specs.Prelude.{if◌then◌else◌}
use Rattle.std.proofs.Common.{◌≡◌, ℕ, ◌<◌, List, [], ◌∷◌, length, Bool, true, false, refl, sym, ap, ◌∙◌, arith}
use Rattle.std.specs.Prelude.{◌==◌, ◌||◌}
use Rattle.std.specs.List.{filter}
use Rattle.std.proofs.lemmas.Bool.{false≢true, eqb-true, eq-eqb}
use Rattle.std.proofs.lemmas.Map.Views.{any-filter_same}
use Rattle.ag_model.specs.Rows.{contains}
use Rattle.ag_lists.proofs.Tests.{by_bool, if_has}

-- a page that passes
pub record Passing (q : ℕ → Bool) (xs : List ℕ) : Type 0 where
  pub page : ℕ
  pub inside : contains page xs ≡ true
  pub passes : q page ≡ true

contains_more : (p x : ℕ) (xs : List ℕ) → contains p xs ≡ true → contains p (x ∷ xs) ≡ true
contains_more p x xs e = by_bool (p == x) (λ v. (v || contains p xs) ≡ true) (λ _. refl) (λ _. e)

contains_first : (x : ℕ) (xs : List ℕ) → contains x (x ∷ xs) ≡ true
contains_first x xs = ap (λ v. v || contains x xs) (eq-eqb x x refl)

pub some_passes : (q : ℕ → Bool) (xs : List ℕ) → 0 < length (filter q xs) → Passing q xs
some_passes q [] h = absurd (omega arith)
some_passes q (x ∷ xs) h =
    by_bool (q x) (λ v. q x ≡ v → 0 < length (if v then x ∷ filter q xs else filter q xs) → Passing q (x ∷ xs))
    (λ _ e _. record { page = x; inside = contains_first x xs; passes = e })
    (λ _ e h2. let r : Passing q xs = some_passes q xs h2 in record { page = r.page; inside = contains_more r.page x xs r.inside; passes = r.passes })
    refl h

pub passing_some : (q : ℕ → Bool) (xs : List ℕ) (p : ℕ) → contains p xs ≡ true → q p ≡ true → 0 < length (filter q xs)
passing_some q [] p e t = absurd (false≢true e)
passing_some q (x ∷ xs) p e t =
    if_has (λ (ys : List ℕ). 0 < length ys) (q x) (x ∷ filter q xs) (filter q xs)
    (λ _. omega arith)
    (λ f. by_bool (p == x) (λ v. (p == x) ≡ v → (v || contains p xs) ≡ true → 0 < length (filter q xs))
    (λ _ y _. absurd (false≢true (sym f ∙ ap q (sym (eqb-true p x y)) ∙ t)))
    (λ _ _ rest. passing_some q xs p rest t)
    refl e)

-- a page that passes is among those that pass
pub kept_inside : (q : ℕ → Bool) (xs : List ℕ) (p : ℕ) → contains p xs ≡ true → q p ≡ true → contains p (filter q xs) ≡ true
kept_inside q xs p e t = any-filter_same (λ y. p == y) q true (λ k y. ap q (sym (eqb-true p k y)) ∙ t) xs ∙ e

-- no page passes
pub none_pass : (q : ℕ → Bool) (xs : List ℕ) → ((p : ℕ) → q p ≡ false) → filter q xs ≡ []
none_pass q [] f = refl
none_pass q (x ∷ xs) f = if_has (λ (ys : List ℕ). ys ≡ []) (q x) (x ∷ filter q xs) (filter q xs) (λ t. absurd (false≢true (sym (f x) ∙ t))) (λ _. none_pass q xs f)
