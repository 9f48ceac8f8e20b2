-- Lists by page numbers.
use Rattle.std.proofs.Common.{◌≡◌, ℕ, zero, suc, ◌+◌, ◌-◌, ◌<◌, ◌≤◌, Bool, true, false, ◌||◌, if◌then◌else◌, ◌∷◌, map, get_or, refl, ap, ◌∙◌, arith}
use Rattle.std.specs.Prelude.{replicate}
use Rattle.std.specs.List.{range_with_len}
use Rattle.std.proofs.lemmas.List.{get_or-replicate}
use Rattle.std.proofs.lemmas.List.FromFn.{get_or-map-range_with_len}
use Rattle.ag_model.specs.Rows.{page_numbers}
use Rattle.ag_pages.specs.Views.{PagesView, is_dirty}
use Rattle.ag_store.specs.Standing.{IsDataPage}
use Rattle.ag_store.specs.Views.{set_where}

-- two functions that agree on so many numbers
pub map-same : {A : Type 0} (f g : ℕ → A) (from n : ℕ) → ((k : ℕ) → from ≤ k → k < from + n → f k ≡ g k) → map f (range_with_len from n) ≡ map g (range_with_len from n)
map-same f g from zero same = refl
map-same f g from (suc n) same =
    let others = map-same f g (from + 1) n (λ k low high. same k (omega arith) (omega arith)) in
    ap (λ x. x ∷ map f (range_with_len (from + 1) n)) (same from (omega arith) (omega arith)) ∙ ap (λ xs. g from ∷ xs) others

-- a function with one value
pub map-one : {A : Type 0} (f : ℕ → A) (a : A) (from n : ℕ) → ((k : ℕ) → from ≤ k → k < from + n → f k ≡ a) → map f (range_with_len from n) ≡ replicate n a
map-one f a from zero same = refl
map-one f a from (suc n) same =
    let others = map-one f a (from + 1) n (λ k low high. same k (omega arith) (omega arith)) in
    ap (λ x. x ∷ map f (range_with_len (from + 1) n)) (same from (omega arith) (omega arith)) ∙ ap (λ xs. a ∷ xs) others

set-one : (test d e : Bool) → e ≡ (d || test) → e ≡ (if test then true else d)
set-one true true e is = is
set-one true false e is = is
set-one false true e is = is
set-one false false e is = is

-- flags that a test sets
pub flags-set : (test f g : ℕ → Bool) (from n : ℕ) → ((k : ℕ) → from ≤ k → k < from + n → g k ≡ (f k || test k)) → map g (range_with_len from n) ≡ set_where test from (map f (range_with_len from n))
flags-set test f g from zero is = refl
flags-set test f g from (suc n) is =
    let others = flags-set test f g (from + 1) n (λ k low high. is k (omega arith) (omega arith)) in
    ap (λ x. x ∷ map g (range_with_len (from + 1) n)) (set-one (test from) (f from) (g from) (is from (omega arith) (omega arith)))
    ∙ ap (λ xs. (if test from then true else f from) ∷ xs) others

-- the flag of a page
pub flag-at : (v : PagesView) (pages page : ℕ) → IsDataPage pages page → get_or (map (is_dirty v) (page_numbers pages)) (page - 16) false ≡ is_dirty v page
flag-at v pages page is = get_or-map-range_with_len (is_dirty v) 16 pages (page - 16) page false (omega (arith, is.0, is.1)) (omega (arith, is.0))

-- where none is set
pub no-flag : (pages page : ℕ) → IsDataPage pages page → get_or (replicate pages false) (page - 16) false ≡ false
no-flag pages page is = get_or-replicate pages (page - 16) false false (omega (arith, is.0, is.1))
