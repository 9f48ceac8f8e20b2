-- Where the pages of a stripe stand in its table.
use Rattle.std.proofs.Common.{◌≡◌, ℕ, zero, suc, ◌+◌, ◌-◌, ◌*◌, ◌/◌, ◌%◌, ◌<◌, ◌≤◌, inl, inr, Bool, true, false, cond, eqb, leb, ltb, List, [], ◌∷◌, length, get_or, set, replicate, refl, sym, ap, ◌∙◌, arith, ◌&&◌, ◌||◌}
use Rattle.std.proofs.lemmas.Bool.{and_parts, cases_Bool, false_from_ne_true, eqb-true, eq-eqb, leb-true, leb-false, ltb-true, ltb-false, false≢true, lt-ltb, le-ltb, le-leb}
use Rattle.std.proofs.lemmas.Bool.Decides.{eqb_tells}
use Rattle.std.proofs.lemmas.List.{get_or-set_other}
use Rattle.std.proofs.lemmas.Grind.{get_or-set_at}
use Rattle.ag_model.specs.Rows.{contains, stripe_of}
use Rattle.std.specs.List.{filter, range_with_len}
use Rattle.ag_lists.proofs.Places.{at_replicate}
use Rattle.ag_lists.proofs.Tests.{and_three}
use Rattle.ag_model.specs.PageSets.{pages_where, most_pages}
use Rattle.ag_model.specs.PageBits.{contains-pages_where}
use Rattle.ag_model.proofs.PageSets.{pages_where-agrees}
use Rattle.ag_stripe.specs.declared.slot.Slot.{Slot}
use Rattle.ag_stripe.specs.Tables.{Table, IsTable, is_own, place_of, empty_slot, slot_of, is_dirty_at, dirty_pages}

-- a page of the stripe
pub record Owns (t : Table) (page : ℕ) : Type 0 where
  pub low : 16 ≤ page
  pub high : page < 16 + t.pages
  pub stripe : page % 16 ≡ t.number

pub owns : (t : Table) (page : ℕ) → is_own t page ≡ true → Owns t page
owns t page e =
    let first = and_parts (leb 16 page) (ltb page (16 + t.pages) && eqb (page % 16) t.number) e in
    let next = and_parts (ltb page (16 + t.pages)) (eqb (page % 16) t.number) first.1 in
    record { low = leb-true 16 page first.0; high = ltb-true page (16 + t.pages) next.0; stripe = eqb-true (page % 16) t.number next.1 }

pub place_below : (t : Table) (page : ℕ) → IsTable t → is_own t page ≡ true → place_of page < length t.slots
place_below t page h e =
    let o = owns t page e in
    let low = o.low in
    let high = o.high in
    let stripe = o.stripe in
    let count = h.count in
    let small = h.small in
    omega arith

-- two pages of the stripe at one place are one
pub one_place : (t : Table) (p q : ℕ) → is_own t p ≡ true → is_own t q ≡ true → place_of p ≡ place_of q → p ≡ q
one_place t p q a b e =
    let o = owns t p a in
    let r = owns t q b in
    let low = o.low in
    let low' = r.low in
    let stripe = o.stripe in
    let stripe' = r.stripe in
    omega arith

-- the table with another slot at a page
abbrev pub with_slot : Table → ℕ → Slot → Table
with_slot t page s = record { number = t.number; pages = t.pages; slots = set t.slots (place_of page) s }

at_own : (t : Table) (page : ℕ) → is_own t page ≡ true → slot_of t page ≡ get_or t.slots (place_of page) empty_slot
unfolding slot_of
at_own t page e = rw e refl

pub at_other : (t : Table) (page : ℕ) → is_own t page ≡ false → slot_of t page ≡ empty_slot
unfolding slot_of
at_other t page e = rw e refl

get_or-any : (d f : Slot) (xs : List Slot) (i : ℕ) → i < length xs → get_or xs i d ≡ get_or xs i f
get_or-any d f [] i lt = absurd (omega arith)
get_or-any d f (x ∷ xs) zero lt = refl
get_or-any d f (x ∷ xs) (suc i) lt = get_or-any d f xs i (omega arith)

-- what stands in the slots is what is kept of the page
pub slot-there : (t : Table) (page : ℕ) (d : Slot) → IsTable t → is_own t page ≡ true → get_or t.slots (place_of page) d ≡ slot_of t page
slot-there t page d h e = get_or-any d empty_slot t.slots (place_of page) (place_below t page h e) ∙ sym (at_own t page e)

-- one slot was changed
pub slot-changed : (t : Table) (page : ℕ) (s : Slot) → IsTable t → is_own t page ≡ true → (q : ℕ) → slot_of (with_slot t page s) q ≡ cond (eqb q page) s (slot_of t q)
slot-changed t page s h own q = elim (eqb_tells q page) [
  | inl same ↦
      (let there : slot_of (with_slot t page s) page ≡ s = at_own (with_slot t page s) page own ∙ get_or-set_at t.slots (place_of page) (place_of page) s empty_slot refl (place_below t page h own) in
      rw same.0 (ap (slot_of (with_slot t page s)) same.1 ∙ there))
  | inr other ↦ rw other.0 (elim (cases_Bool (is_own t q)) [
    | inl mine ↦
        at_own (with_slot t page s) q mine
        ∙ get_or-set_other t.slots (place_of page) (place_of q) s empty_slot (λ e. other.1 (one_place t q page mine own e))
        ∙ sym (at_own t q mine)
    | inr off ↦ at_other (with_slot t page s) q off ∙ sym (at_other t q off)
  ])
]

-- what stands at the place of a page
pub slot-at : (t now : Table) (page k : ℕ) (d : Slot) → t ≡ now → IsTable t → is_own now page ≡ true → k ≡ place_of page → get_or t.slots k d ≡ slot_of now page
slot-at t now page k d is h own at =
    let mine : is_own t page ≡ true = ap (λ (x : Table). is_own x page) is ∙ own in
    ap (λ (i : ℕ). get_or t.slots i d) at ∙ slot-there t page d h mine ∙ ap (λ (x : Table). slot_of x page) is

-- the slot of a page was edited
pub slot-edited : (t now : Table) (page k : ℕ) (f : Slot → Slot) (old : Slot) → t ≡ now → IsTable t → is_own now page ≡ true → k ≡ place_of page → old ≡ get_or t.slots k old
    → (q : ℕ) → slot_of (record { number = t.number; pages = t.pages; slots = set t.slots k (f old) }) q ≡ cond (eqb q page) (f (slot_of now page)) (slot_of now q)
slot-edited t now page k f old is h own at there q =
    let mine : is_own t page ≡ true = ap (λ (x : Table). is_own x page) is ∙ own in
    let same : old ≡ slot_of now page = there ∙ slot-at t now page k old is h own at in
    ap (λ (i : ℕ). slot_of (record { number = t.number; pages = t.pages; slots = set t.slots i (f old) }) q) at
    ∙ slot-changed t page (f old) h mine q
    ∙ (λ i. cond (eqb q page) (f (same i)) (slot_of (is i) q))

-- the same, where the page is asked for as one of the stripe
pub slot-edited-own : (t now : Table) (page k : ℕ) (f : Slot → Slot) (old : Slot) → t ≡ now → IsTable t → is_own now page ≡ true → k ≡ place_of page → old ≡ get_or t.slots k old
    → (q : ℕ) → slot_of (record { number = t.number; pages = t.pages; slots = set t.slots k (f old) }) q ≡ cond (is_own now q && eqb q page) (f (slot_of now q)) (slot_of now q)
slot-edited-own t now page k f old is h own at there q = slot-edited t now page k f old is h own at there q ∙ elim (eqb_tells q page) [
  | inl same ↦
      (let mine : is_own now q ≡ true = ap (is_own now) same.1 ∙ own in
      rw (same.0, mine) (ap (λ (p : ℕ). f (slot_of now p)) (sym same.1)))
  | inr other ↦ rw other.0 (sym (never (is_own now q) (f (slot_of now q)) (slot_of now q)))
]
  where
    never : (b : Bool) (x y : Slot) → cond (b && false) x y ≡ y
    never true x y = refl
    never false x y = refl

-- a table of empty slots
pub slot-none : (number pages count page : ℕ) → slot_of (record { number = number; pages = pages; slots = replicate count empty_slot }) page ≡ empty_slot
slot-none number pages count page =
    let t : Table = record { number = number; pages = pages; slots = replicate count empty_slot } in
    elim (cases_Bool (is_own t page)) [
      | inl mine ↦ at_own t page mine ∙ at_replicate (λ (s : Slot). s ≡ empty_slot) count empty_slot empty_slot (place_of page) refl refl
      | inr off ↦ at_other t page off
    ]

-- ---- the dirty pages

get_or-past : (slots : List Slot) (i : ℕ) → length slots ≤ i → get_or slots i empty_slot ≡ empty_slot
get_or-past [] i h = refl
get_or-past (s ∷ slots) zero h = absurd (omega arith)
get_or-past (s ∷ slots) (suc i) h = get_or-past slots i (omega arith)

none-where : (n a : ℕ) → filter (λ (p : ℕ). false) (range_with_len a n) ≡ []
none-where zero a = refl
none-where (suc n) a = none-where n (a + 1)

below-none : (x y z : Bool) → y ≡ false → (x && (y && z)) ≡ false
below-none true y z e = rw e refl
below-none false y z e = refl

-- no slot: no dirty page
pub dirty-none : (number : ℕ) (slots : List Slot) → pages_where (is_dirty_at number slots 0) ≡ []
dirty-none number slots =
    pages_where-agrees (is_dirty_at number slots 0) (λ p. false) (λ p low high. below-none (eqb (stripe_of p) number) (ltb (place_of p) 0) (get_or slots (place_of p) empty_slot).dirty (le-ltb (place_of p) 0 (omega arith)))
    ∙ none-where most_pages 16

least-above : (a i : ℕ) → i ≤ a → (a ≡ i → ⊥) → i + 1 ≤ a
least-above a i le ne = elim (cases_Bool (leb (i + 1) a)) [
  | inl t ↦ leb-true (i + 1) a t
  | inr f ↦ (let l = leb-false (i + 1) a f in absurd (ne (omega arith)))
]

-- another place is as far below one slot more
past : (a i : ℕ) → (a ≡ i → ⊥) → ltb a (i + 1) ≡ ltb a i
past a i ne = elim (cases_Bool (ltb a i)) [
  | inl t ↦ (let l = ltb-true a i t in lt-ltb a (i + 1) (omega arith) ∙ sym t)
  | inr f ↦ (let l = ltb-false a i f in le-ltb a (i + 1) (least-above a i l ne) ∙ sym f)
]

-- what is dirty among one slot more
next-dirty : (number i p : ℕ) (dirty : ℕ → Bool) → number < 16 → 16 ≤ p → dirty i ≡ true
    → (eqb p (16 + number + 16 * i) || (eqb (p % 16) number && (ltb (p / 16 - 1) i && dirty (p / 16 - 1)))) ≡ (eqb (p % 16) number && (ltb (p / 16 - 1) (i + 1) && dirty (p / 16 - 1)))
next-dirty number i p dirty small low on = elim (eqb_tells (p % 16) number) [
  | inl own ↦ elim (eqb_tells (p / 16 - 1) i) [
    | inl here ↦
        (let is : eqb p (16 + number + 16 * i) ≡ true = (let a = own.1 in let b = here.1 in eq-eqb p (16 + number + 16 * i) (omega arith)) in
        let under : ltb (p / 16 - 1) (i + 1) ≡ true = (let b = here.1 in lt-ltb (p / 16 - 1) (i + 1) (omega arith)) in
        let d : dirty (p / 16 - 1) ≡ true = ap dirty here.1 ∙ on in
        rw (is, own.0, under, d) refl)
    | inr away ↦
        (let apart : eqb p (16 + number + 16 * i) ≡ false = false_from_ne_true (eqb p (16 + number + 16 * i)) (λ t. away.1 (let e = eqb-true p (16 + number + 16 * i) t in omega arith)) in
        let same : ltb (p / 16 - 1) (i + 1) ≡ ltb (p / 16 - 1) i = past (p / 16 - 1) i away.1 in
        rw (apart, same) refl)
  ]
  | inr other ↦
      (let apart : eqb p (16 + number + 16 * i) ≡ false = false_from_ne_true (eqb p (16 + number + 16 * i)) (λ t. other.1 (let e = eqb-true p (16 + number + 16 * i) t in omega arith)) in
      rw (apart, other.0) refl)
]

-- one slot more, which is dirty
pub dirty-more : (number : ℕ) (slots : List Slot) (i : ℕ) → number < 16 → (get_or slots i empty_slot).dirty ≡ true
    → pages_where (λ p. eqb p (16 + number + 16 * i) || contains p (pages_where (is_dirty_at number slots i))) ≡ pages_where (is_dirty_at number slots (i + 1))
dirty-more number slots i small on = pages_where-agrees _ _ (λ p low high.
    ap (λ b. eqb p (16 + number + 16 * i) || b) (contains-pages_where (is_dirty_at number slots i) p low high) ∙ next-dirty number i p (λ k. (get_or slots k empty_slot).dirty) small low on)

-- the same of a set that was made so
pub dirty-next : (number i x : ℕ) (slots : List Slot) (s : Slot) (old new : List ℕ) → number < 16 → i < length slots → x ≡ 16 + number + 16 * i → s ≡ get_or slots i s → s.dirty ≡ true
    → old ≡ pages_where (is_dirty_at number slots i) → new ≡ pages_where (λ p. eqb p x || contains p old) → new ≡ pages_where (is_dirty_at number slots (i + 1))
dirty-next number i x slots s old new small lt is there on before after =
    after ∙ (λ j. pages_where (λ p. eqb p (is j) || contains p (before j))) ∙ dirty-more number slots i small (ap (λ (k : Slot). k.dirty) (sym (there ∙ get_or-any s empty_slot slots i lt)) ∙ on)

-- one slot more, which is clean
next-clean : (number i p : ℕ) (dirty : ℕ → Bool) → dirty i ≡ false
    → (eqb (p % 16) number && (ltb (p / 16 - 1) i && dirty (p / 16 - 1))) ≡ (eqb (p % 16) number && (ltb (p / 16 - 1) (i + 1) && dirty (p / 16 - 1)))
next-clean number i p dirty off = ap (λ b. eqb (p % 16) number && b) (elim (eqb_tells (p / 16 - 1) i) [
  | inl here ↦ (let d : dirty (p / 16 - 1) ≡ false = ap dirty here.1 ∙ off in rw d (never (ltb (p / 16 - 1) i) (ltb (p / 16 - 1) (i + 1))))
  | inr away ↦ ap (λ b. b && dirty (p / 16 - 1)) (sym (past (p / 16 - 1) i away.1))
])
  where
    never : (a b : Bool) → (a && false) ≡ (b && false)
    never true true = refl
    never true false = refl
    never false true = refl
    never false false = refl

pub dirty-same : (number : ℕ) (slots : List Slot) (i : ℕ) → (get_or slots i empty_slot).dirty ≡ false → pages_where (is_dirty_at number slots i) ≡ pages_where (is_dirty_at number slots (i + 1))
dirty-same number slots i off = pages_where-agrees _ _ (λ p low high. next-clean number i p (λ k. (get_or slots k empty_slot).dirty) off)

pub clean-next : (number i : ℕ) (slots : List Slot) (s : Slot) → i < length slots → s ≡ get_or slots i s → s.dirty ≡ false → pages_where (is_dirty_at number slots i) ≡ pages_where (is_dirty_at number slots (i + 1))
clean-next number i slots s lt there off = dirty-same number slots i (ap (λ (k : Slot). k.dirty) (sym (there ∙ get_or-any s empty_slot slots i lt)) ∙ off)

-- the dirty pages of a whole table
pub dirty-all : (t : Table) → IsTable t → pages_where (is_dirty_at t.number t.slots (length t.slots)) ≡ dirty_pages t
dirty-all t h = pages_where-agrees _ _ (λ p low high. elim (cases_Bool (is_own t p)) [
  | inl mine ↦
      (let o = owns t p mine in
      let s : eqb (stripe_of p) t.number ≡ true = eq-eqb (stripe_of p) t.number o.stripe in
      let l : ltb (place_of p) (length t.slots) ≡ true = lt-ltb (place_of p) (length t.slots) (place_below t p h mine) in
      rw (s, l) (sym (ap (λ (k : Slot). k.dirty) (at_own t p mine))))
  | inr off ↦ outside t p h low off ∙ sym (ap (λ (k : Slot). k.dirty) (at_other t p off))
])
  where
    beyond : (t : Table) (p : ℕ) → IsTable t → 16 ≤ p → eqb (stripe_of p) t.number ≡ true → stripe_of p ≡ t.number → is_own t p ≡ false → length t.slots ≤ place_of p
    beyond t p h low m is off =
        let count = h.count in
        let small = h.small in
        let many = h.low in
        elim (cases_Bool (ltb p (16 + t.pages))) [
          | inl t' ↦ absurd (false≢true (sym off ∙ and_three (leb 16 p) (ltb p (16 + t.pages)) (eqb (stripe_of p) t.number) (le-leb 16 p low) t' m))
          | inr f ↦ (let above = ltb-false p (16 + t.pages) f in omega arith)
        ]

    outside : (t : Table) (p : ℕ) → IsTable t → 16 ≤ p → is_own t p ≡ false → is_dirty_at t.number t.slots (length t.slots) p ≡ false
    outside t p h low off = elim (eqb_tells (stripe_of p) t.number) [
      | inr other ↦ rw other.0 refl
      | inl mine ↦
          (let past : length t.slots ≤ place_of p = beyond t p h low mine.0 mine.1 off in
          rw (mine.0, le-ltb (place_of p) (length t.slots) past) refl)
    ]
