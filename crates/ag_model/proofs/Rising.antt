-- Rising numbers, and those of them up to one.
use Rattle.std.proofs.Common.{◌≡◌, ℕ, ◌<◌, ◌≤◌, Bool, true, false, cond, eqb, leb, List, [], ◌∷◌, ◌++◌, refl, sym, ap, ◌∙◌, inl, inr, arith}
use Rattle.std.specs.Prelude.{Option, Some, nat_le}
use Rattle.std.specs.List.{filter, last_or}
use Rattle.std.proofs.lemmas.Bool.{cases_Bool, or_cases, or_left, or_right, false_from_ne_true, leb-true, leb-false, le-leb, eqb-true, eq-eqb}
use Rattle.std.proofs.lemmas.Map.Views.{any-filter_same}
use Rattle.ag_model.specs.Proper.{RisesFrom}
use Rattle.ag_model.specs.Rows.{contains}

pub not-leb : (a b : ℕ) → b < a → leb a b ≡ false
not-leb a b lt = false_from_ne_true (leb a b) (λ t. let le = leb-true a b t in absurd (omega arith))

pub filter-twice : (k m : ℕ) → k ≤ m → (es : List ℕ) → filter (λ e. nat_le e k) (filter (λ e. nat_le e m) es) ≡ filter (λ e. nat_le e k) es
filter-twice k m le [] = refl
filter-twice k m le (e ∷ es) =
    let ih = filter-twice k m le es in
    elim (cases_Bool (leb e m)) [
      | inl t ↦ rw t (ap (λ z. cond (leb e k) (e ∷ z) z) ih)
      | inr f ↦ (let g = not-leb e k (omega (arith, leb-false e m f)) in rw (f, g) ih)
    ]

-- a number that isn't above the bound is found before and after
pub filter-contains : (n k : ℕ) → n ≤ k → (es : List ℕ) → contains n (filter (λ e. nat_le e k) es) ≡ contains n es
filter-contains n k le es = any-filter_same (eqb n) (λ e. nat_le e k) true (λ e t. le-leb e k (let s = eqb-true n e t in omega arith)) es

pub filter-below : (n k : ℕ) (es : List ℕ) → contains n (filter (λ e. nat_le e k) es) ≡ true → n ≤ k
filter-below n k [] c = cc
filter-below n k (e ∷ es) c = elim (cases_Bool (leb e k)) [
  | inl t ↦ (let d : contains n (cond (leb e k) (e ∷ filter (λ e. nat_le e k) es) (filter (λ e. nat_le e k) es)) ≡ true = c in
      elim (or_cases (eqb n e) (contains n (filter (λ e. nat_le e k) es)) (sym (ap (λ b. contains n (cond b (e ∷ filter (λ e. nat_le e k) es) (filter (λ e. nat_le e k) es))) t) ∙ d)) [
        | inl s ↦ omega (arith, eqb-true n e s, leb-true e k t)
        | inr r ↦ filter-below n k es r
      ])
  | inr f ↦ filter-below n k es (sym (ap (λ b. contains n (cond b (e ∷ filter (λ e. nat_le e k) es) (filter (λ e. nat_le e k) es))) f) ∙ c)
]

pub rises-lower : (low high : ℕ) → low ≤ high → (es : List ℕ) → RisesFrom high es → RisesFrom low es
rises-lower low high le [] h = tt
rises-lower low high le (e ∷ es) h = let p = h.0 in (omega arith, h.1)

pub rises-filter : (p : ℕ → Bool) (low : ℕ) (es : List ℕ) → RisesFrom low es → RisesFrom low (filter p es)
rises-filter p low [] h = tt
rises-filter p low (e ∷ es) h =
    let ih = rises-filter p e es h.1 in
    let q = h.0 in
    elim (cases_Bool (p e)) [
      | inl t ↦ rw t (q, ih)
      | inr f ↦ rw f (rises-lower low e (omega arith) (filter p es) ih)
    ]

pub rises-above : (low n : ℕ) (es : List ℕ) → RisesFrom low es → contains n es ≡ true → low < n
rises-above low n [] h c = cc
rises-above low n (e ∷ es) h c =
    let p = h.0 in
    elim (or_cases (eqb n e) (contains n es) c) [
      | inl t ↦ omega (arith, eqb-true n e t)
      | inr r ↦ omega (arith, rises-above e n es h.1 r)
    ]

pub rises-first : (low : ℕ) (es fs : List ℕ) → RisesFrom low (es ++ fs) → RisesFrom low es
rises-first low [] fs h = tt
rises-first low (e ∷ es) fs h = (h.0, rises-first e es fs h.1)

pub filter-none : (n low : ℕ) (es : List ℕ) → RisesFrom low es → n ≤ low → filter (λ e. nat_le e n) es ≡ []
filter-none n low [] h le = refl
filter-none n low (e ∷ es) h le =
    let p = h.0 in
    let f = not-leb e n (omega arith) in
    rw f (filter-none n e es h.1 (omega arith))

-- the last of rising numbers is the greatest
pub last-top : (e n : ℕ) (es : List ℕ) → RisesFrom e es → last_or (Some e) es ≡ Some n → e ≤ n
last-top e n [] h l = let s : e ≡ n = cc l in omega arith
last-top e n (d ∷ es) h l = let p = h.0 in omega (arith, last-top d n es h.1 l)

pub last-within : (e n : ℕ) (es : List ℕ) → last_or (Some e) es ≡ Some n → contains n (e ∷ es) ≡ true
last-within e n [] l = let s : n ≡ e = cc l in or_left (eqb n e) false (eq-eqb n e s)
last-within e n (d ∷ es) l = or_right (eqb n e) (contains n (d ∷ es)) (last-within d n es l)

pub filter-whole : (n e : ℕ) (es : List ℕ) → RisesFrom e es → last_or (Some e) es ≡ Some n → filter (λ e. nat_le e n) (e ∷ es) ≡ e ∷ es
filter-whole n e [] h l = let s : e ≡ n = cc l in let t = le-leb e n (omega arith) in rw t refl
filter-whole n e (d ∷ es) h l =
    let p = h.0 in
    let t = le-leb e n (omega (arith, last-top d n es h.1 l)) in
    rw t (ap (λ z. e ∷ z) (filter-whole n d es h.1 l))

-- cut at one of them, rising numbers end with it
pub last-cut : (n low : ℕ) (o : Option ℕ) (es : List ℕ) → RisesFrom low es → contains n es ≡ true → last_or o (filter (λ e. nat_le e n) es) ≡ Some n
last-cut n low o [] h c = cc
last-cut n low o (e ∷ es) h c = elim (or_cases (eqb n e) (contains n es) c) [
  | inl s ↦ (let same = eqb-true n e s in let t = le-leb e n (omega arith) in rw t (let none = filter-none n e es h.1 (omega arith) in rw none (ap Some (sym same))))
  | inr r ↦ (let p = rises-above e n es h.1 r in let t = le-leb e n (omega arith) in rw t (last-cut n e (Some e) es h.1 r))
]
