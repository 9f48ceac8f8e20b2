-- Pages that rise, as sets.
use Rattle.std.proofs.Common.{◌≡◌, ℕ, zero, suc, ◌+◌, ◌<◌, ◌≤◌, ◌⊎◌, Bool, true, false, cond, ◌||◌, eqb, List, [], ◌∷◌, ◌++◌, map, refl, sym, ap, subst, ◌∙◌, inl, inr, arith}
use Rattle.std.specs.List.{AllByRecursion, filter, range_with_len}
use Rattle.std.proofs.lemmas.Bool.{cases_eq, or_cases, or_left, or_right, eqb-true, eq-eqb}
use Rattle.ag_model.specs.Rows.{contains}
use Rattle.ag_pages.specs.Flush.{Rise}

-- what holds of each number of a list holds of each item made of them
pub all_made : {X : Type 0} (P : X → Type 0) (f : ℕ → X) (ps : List ℕ) → ((p : ℕ) → contains p ps ≡ true → P (f p)) → AllByRecursion P (map f ps)
all_made P f [] each = tt
all_made P f (p ∷ ps) each = (
  each p (or_left (eqb p p) (contains p ps) (eq-eqb p p refl)),
  all_made P f ps (λ q there. each q (or_right (eqb q p) (contains q ps) there)),
)

pub made_at : {X : Type 0} (P : X → Type 0) (f : ℕ → X) (ps : List ℕ) (p : ℕ) → AllByRecursion P (map f ps) → contains p ps ≡ true → P (f p)
made_at P f [] p all there = cc
made_at P f (q ∷ ps) p all there = elim (or_cases (eqb p q) (contains p ps) there) [
  | inl is ↦ subst (λ (n : ℕ). P (f n)) (sym (eqb-true p q is)) all.0
  | inr later ↦ made_at P f ps p all.1 later
]

pub all_in : (P : ℕ → Type 0) (ps : List ℕ) → ((p : ℕ) → contains p ps ≡ true → P p) → AllByRecursion P ps
all_in P [] each = tt
all_in P (p ∷ ps) each = (
  each p (or_left (eqb p p) (contains p ps) (eq-eqb p p refl)),
  all_in P ps (λ q there. each q (or_right (eqb q p) (contains q ps) there)),
)

pub in_at : (P : ℕ → Type 0) (ps : List ℕ) (p : ℕ) → AllByRecursion P ps → contains p ps ≡ true → P p
in_at P [] p all there = cc
in_at P (q ∷ ps) p all there = elim (or_cases (eqb p q) (contains p ps) there) [
  | inl is ↦ subst P (sym (eqb-true p q is)) all.0
  | inr later ↦ in_at P ps p all.1 later
]

-- one list, or the other
pub contains-append : (q : ℕ) (xs ys : List ℕ) → contains q (xs ++ ys) ≡ (contains q xs || contains q ys)
contains-append q [] ys = refl
contains-append q (x ∷ xs) ys = by_test (eqb q x) (contains-append q xs ys)
  where
    by_test : (b : Bool) → contains q (xs ++ ys) ≡ (contains q xs || contains q ys) → (b || contains q (xs ++ ys)) ≡ ((b || contains q xs) || contains q ys)
    by_test true h = refl
    by_test false h = h

-- ---- rising

pub rise_lower : (low high : ℕ) (ps : List ℕ) → low ≤ high → Rise high ps → Rise low ps
rise_lower low high [] le h = tt
rise_lower low high (p ∷ ps) le h = (let above = h.0 in omega (arith, le, above), h.1, h.2)

pub rise_first : (low : ℕ) (xs ys : List ℕ) → Rise low (xs ++ ys) → Rise low xs
rise_first low [] ys h = tt
rise_first low (x ∷ xs) ys h = (h.0, h.1, rise_first (suc x) xs ys h.2)

pub rise_then : (low : ℕ) (xs ys : List ℕ) → Rise low (xs ++ ys) → Rise low ys
rise_then low [] ys h = h
rise_then low (x ∷ xs) ys h = rise_lower low (suc x) ys (let above = h.0 in omega (arith, above)) (rise_then (suc x) xs ys h.2)

pub rise_above : (low q : ℕ) (ps : List ℕ) → Rise low ps → contains q ps ≡ true → low ≤ q
rise_above low q [] h there = cc
rise_above low q (p ∷ ps) h there = elim (or_cases (eqb q p) (contains q ps) there) [
  | inl is ↦ (let same = eqb-true q p is in let above = h.0 in omega (arith, same, above))
  | inr later ↦ (let from = rise_above (suc p) q ps h.2 later in let above = h.0 in omega (arith, from, above))
]

pub rise_below : (low q : ℕ) (ps : List ℕ) → Rise low ps → contains q ps ≡ true → q < 2064
rise_below low q [] h there = cc
rise_below low q (p ∷ ps) h there = elim (or_cases (eqb q p) (contains q ps) there) [
  | inl is ↦ (let same = eqb-true q p is in let below = h.1 in omega (arith, same, below))
  | inr later ↦ rise_below (suc p) q ps h.2 later
]

-- no page stands in both parts
pub rise_apart : (low q : ℕ) (xs ys : List ℕ) → Rise low (xs ++ ys) → contains q xs ≡ true → contains q ys ≡ true → ⊥
rise_apart low q [] ys h one other = cc
rise_apart low q (x ∷ xs) ys h one other = elim (or_cases (eqb q x) (contains q xs) one) [
  | inl is ↦ (let same = eqb-true q x is in let from = rise_above (suc x) q ys (rise_then (suc x) xs ys h.2) other in absurd (omega (arith, same, from)))
  | inr later ↦ rise_apart (suc x) q xs ys h.2 later other
]

-- ---- the numbers of a range that pass

rise_with : (b : Bool) (a : ℕ) (ps : List ℕ) → a < 2064 → Rise (suc a) ps → Rise a (cond b (a ∷ ps) ps)
rise_with true a ps lt h = (let e : a ≤ a = omega arith in e, lt, h)
rise_with false a ps lt h = rise_lower a (suc a) ps (omega arith) h

with_cases : (b : Bool) (a q : ℕ) (ps : List ℕ) → contains q (cond b (a ∷ ps) ps) ≡ true → ((b ≡ true) × (q ≡ a)) ⊎ (contains q ps ≡ true)
with_cases true a q ps h = elim (or_cases (eqb q a) (contains q ps) h) [ inl is ↦ inl (refl, eqb-true q a is) | inr later ↦ inr later ]
with_cases false a q ps h = inr h

with_later : (b : Bool) (a q : ℕ) (ps : List ℕ) → contains q ps ≡ true → contains q (cond b (a ∷ ps) ps) ≡ true
with_later true a q ps h = or_right (eqb q a) (contains q ps) h
with_later false a q ps h = h

with_here : (b : Bool) (a q : ℕ) (ps : List ℕ) → b ≡ true → q ≡ a → contains q (cond b (a ∷ ps) ps) ≡ true
with_here true a q ps e is = or_left (eqb q a) (contains q ps) (eq-eqb q a is)
with_here false a q ps e is = cc

module _ (f : ℕ → Bool) where
  pub rise_filter : (a n : ℕ) → a + n ≤ 2064 → Rise a (filter f (range_with_len a n))
  rise_filter a zero le = tt
  rise_filter a (suc n) le =
      let next : suc a ≡ a + 1 = omega arith in
      rise_with (f a) a (filter f (range_with_len (a + 1) n)) (omega (arith, le)) (subst (λ (k : ℕ). Rise (suc a) (filter f (range_with_len k n))) next (rise_filter (suc a) n (omega (arith, le))))

  pub passes : (a n q : ℕ) → contains q (filter f (range_with_len a n)) ≡ true → f q ≡ true
  passes a zero q there = cc
  passes a (suc n) q there = elim (with_cases (f a) a q (filter f (range_with_len (a + 1) n)) there) [
    | inl (is, same) ↦ ap f same ∙ is
    | inr later ↦ passes (a + 1) n q later
  ]

  pub within : (a n q : ℕ) → contains q (filter f (range_with_len a n)) ≡ true → (a ≤ q) × (q < a + n)
  within a zero q there = cc
  within a (suc n) q there = elim (with_cases (f a) a q (filter f (range_with_len (a + 1) n)) there) [
    | inl (is, same) ↦ (omega (arith, same), omega (arith, same))
    | inr later ↦ (let w = within (a + 1) n q later in (let x = w.0 in omega (arith, x), let y = w.1 in omega (arith, y)))
  ]

  pub stands : (a n q : ℕ) → a ≤ q → q < a + n → f q ≡ true → contains q (filter f (range_with_len a n)) ≡ true
  stands a zero q le lt is = absurd (omega (arith, le, lt))
  stands a (suc n) q le lt is = elim (cases_eq q a) [
    | inl same ↦ with_here (f a) a q (filter f (range_with_len (a + 1) n)) (sym (ap f same) ∙ is) same
    | inr apart ↦ with_later (f a) a q (filter f (range_with_len (a + 1) n)) (stands (a + 1) n q (omega (arith, le, apart)) (omega (arith, lt)) is)
  ]
