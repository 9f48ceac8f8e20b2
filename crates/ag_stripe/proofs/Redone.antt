-- What redo does to one page, and that twice is once.
use Rattle.std.proofs.Common.{◌≡◌, ℕ, ◌<◌, ◌≤◌, Bool, true, false, cond, ltb, ◌&&◌, ◌||◌, refl, sym, ap, subst, ◌∙◌, inl, inr, arith}
use Rattle.std.specs.Prelude.{Option, Some, None}
use Rattle.std.proofs.lemmas.Bool.{cases_Bool, ltb-true, ltb-false, lt-ltb, le-ltb}
use Rattle.ag_model.specs.declared.record.Record.{Record}
use Rattle.ag_model.specs.declared.record.Record.TheVariants.{Put, Del, Commit, Abort, Trim, Term}
use Rattle.ag_model.specs.declared.value.PageValue.{PageValue}
use Rattle.ag_stripe.specs.declared.slot.Slot.{Slot}
use Rattle.ag_model.specs.Rows.{touches}
use Rattle.ag_stripe.specs.declared.fault.StripeFault.{StripeFault}
use Rattle.ag_stripe.specs.declared.fault.StripeFault.TheVariants.{Bad, Pending, TooOld, Home, Unlawful, NoMemory}
use Rattle.ag_stripe.specs.Tables.{Table, IsSameTable, is_own, slot_of}
use Rattle.ag_stripe.specs.Redo.{after_record, redone, redone_value, redone_slot, HasRoom, CanTake, IsRefusal}
use Rattle.ag_stripe.proofs.Readings.{own-same}

pub redone-below : (lsn : ℕ) (r : Record) (v : PageValue) → v.lsn < lsn → redone lsn r v ≡ after_record lsn r v
unfolding redone
redone-below lsn r v lt = ap (λ (b : Bool). cond b (after_record lsn r v) v) (lt-ltb v.lsn lsn lt)

pub redone-above : (lsn : ℕ) (r : Record) (v : PageValue) → lsn ≤ v.lsn → redone lsn r v ≡ v
unfolding redone
redone-above lsn r v le = ap (λ (b : Bool). cond b (after_record lsn r v) v) (le-ltb v.lsn lsn le)

-- an edit gives the page its LSN
after-twice : (lsn : ℕ) (r : Record) (v : PageValue) → redone lsn r (after_record lsn r v) ≡ after_record lsn r v
after-twice lsn (Put txn key value) v = redone-above lsn (Put txn key value) (after_record lsn (Put txn key value) v) (omega arith)
after-twice lsn (Del txn key) v = redone-above lsn (Del txn key) (after_record lsn (Del txn key) v) (omega arith)
after-twice lsn (Commit txn listed) v = redone-above lsn (Commit txn listed) (after_record lsn (Commit txn listed) v) (omega arith)
after-twice lsn (Abort txn listed) v = redone-above lsn (Abort txn listed) (after_record lsn (Abort txn listed) v) (omega arith)
after-twice lsn (Trim page horizon) v = redone-above lsn (Trim page horizon) (after_record lsn (Trim page horizon) v) (omega arith)
after-twice lsn (Term term) v = by_test (ltb v.lsn lsn) refl
  where
    by_test : (b : Bool) → ltb v.lsn lsn ≡ b → redone lsn (Term term) v ≡ v
    by_test true e = redone-below lsn (Term term) v (ltb-true v.lsn lsn e)
    by_test false e = redone-above lsn (Term term) v (ltb-false v.lsn lsn e)

pub redone-twice : (lsn : ℕ) (r : Record) (v : PageValue) → redone lsn r (redone lsn r v) ≡ redone lsn r v
redone-twice lsn r v = elim (cases_Bool (ltb v.lsn lsn)) [
  | inl t ↦ (let e = redone-below lsn r v (ltb-true v.lsn lsn t) in ap (redone lsn r) e ∙ after-twice lsn r v ∙ sym e)
  | inr f ↦ ap (redone lsn r) (redone-above lsn r v (ltb-false v.lsn lsn f))
]

value-twice : (lsn : ℕ) (r : Record) (o : Option PageValue) → redone_value lsn r (redone_value lsn r o) ≡ redone_value lsn r o
value-twice lsn r None = refl
value-twice lsn r (Some v) = ap Some (redone-twice lsn r v)

pub slot-twice : (lsn : ℕ) (r : Record) (s : Slot) → redone_slot lsn r (redone_slot lsn r s) ≡ redone_slot lsn r s
slot-twice lsn r s = λ i. record { value = value-twice lsn r s.value i; dirty = true }

-- a page that has the record can take it again
after-room : (lsn : ℕ) (r : Record) (v : PageValue) → (after_record lsn r v).lsn < lsn → HasRoom r (after_record lsn r v)
after-room lsn (Put txn key value) v lt = absurd (omega arith)
after-room lsn (Del txn key) v lt = absurd (omega arith)
after-room lsn (Commit txn listed) v lt = tt
after-room lsn (Abort txn listed) v lt = tt
after-room lsn (Trim page horizon) v lt = tt
after-room lsn (Term term) v lt = tt

redone-room : (lsn : ℕ) (r : Record) (v : PageValue) → (redone lsn r v).lsn < lsn → HasRoom r (redone lsn r v)
redone-room lsn r v lt = elim (cases_Bool (ltb v.lsn lsn)) [
  | inl t ↦
      (let e = redone-below lsn r v (ltb-true v.lsn lsn t) in
      subst (HasRoom r) (sym e) (after-room lsn r v (subst (λ (w : PageValue). w.lsn < lsn) e lt)))
  | inr f ↦ (let e = ap (λ (w : PageValue). w.lsn) (redone-above lsn r v (ltb-false v.lsn lsn f)) in let g = ltb-false v.lsn lsn f in absurd (omega arith))
]

pub takes-again : (lsn : ℕ) (r : Record) (s : Slot) → CanTake lsn r (redone_slot lsn r s)
takes-again lsn r s v e lt = by_value s.value e
  where
    by_value : (o : Option PageValue) → redone_value lsn r o ≡ Some v → HasRoom r v
    by_value None f = cc
    by_value (Some w) f = (let is : redone lsn r w ≡ v = cc in subst (HasRoom r) is (redone-room lsn r w (subst (λ (x : PageValue). x.lsn < lsn) (sym is) lt)))

-- ---- one record on the pages that it lists

abbrev pub RedoneOn : Table → Table → ℕ → Record → (ℕ → Bool) → Type 0
RedoneOn old new lsn r visited = (q : ℕ) → slot_of new q ≡ cond (is_own old q && visited q) (redone_slot lsn r (slot_of old q)) (slot_of old q)

-- pages, and then one more
pub redone-more : (start old new : Table) (lsn : ℕ) (r : Record) (p q : ℕ → Bool) → IsSameTable start old → RedoneOn start old lsn r p → RedoneOn old new lsn r q → RedoneOn start new lsn r (λ x. p x || q x)
redone-more start old new lsn r p q same h k x =
    k x ∙ (λ i. cond (own-same start old same x i && q x) (redone_slot lsn r (h x i)) (h x i)) ∙ by_test (is_own start x) (p x) (q x)
  where
    by_test : (o a b : Bool)
        → cond (o && b) (redone_slot lsn r (cond (o && a) (redone_slot lsn r (slot_of start x)) (slot_of start x))) (cond (o && a) (redone_slot lsn r (slot_of start x)) (slot_of start x)) ≡ cond (o && (a || b)) (redone_slot lsn r (slot_of start x)) (slot_of start x)
    by_test true true true = slot-twice lsn r (slot_of start x)
    by_test true true false = refl
    by_test true false true = refl
    by_test true false false = refl
    by_test false a b = refl

-- the same pages, told otherwise
pub redone-as : (old new : Table) (lsn : ℕ) (r : Record) (p q : ℕ → Bool) → ((x : ℕ) → p x ≡ q x) → RedoneOn old new lsn r p → RedoneOn old new lsn r q
redone-as old new lsn r p q same h x = h x ∙ ap (λ (b : Bool). cond (is_own old x && b) (redone_slot lsn r (slot_of old x)) (slot_of old x)) (same x)

pub redone-none : (t : Table) (lsn : ℕ) (r : Record) → RedoneOn t t lsn r (λ x. false)
redone-none t lsn r x = sym (never (is_own t x))
  where
    never : (b : Bool) → cond (b && false) (redone_slot lsn r (slot_of t x)) (slot_of t x) ≡ slot_of t x
    never true = refl
    never false = refl

-- a page that can take the record when it is its turn can take it at the start
pub refusal-first : (start old : Table) (lsn : ℕ) (r : Record) (p : ℕ → Bool) (e : StripeFault) → IsSameTable start old → RedoneOn start old lsn r p → IsRefusal lsn r old e → IsRefusal lsn r start e
refusal-first start old lsn r p (Unlawful page) same h (own, on, full) = (
  sym (own-same start old same page) ∙ own,
  ap (λ (n : ℕ). touches n page r) (sym same.pages) ∙ on,
  λ can. full (by_test (is_own start page && p page) (h page) can),
)
  where
    by_test : (b : Bool) → slot_of old page ≡ cond b (redone_slot lsn r (slot_of start page)) (slot_of start page) → CanTake lsn r (slot_of start page) → CanTake lsn r (slot_of old page)
    by_test true f can = subst (CanTake lsn r) (sym f) (takes-again lsn r (slot_of start page))
    by_test false f can = subst (CanTake lsn r) (sym f) can
refusal-first start old lsn r p NoMemory same h k = tt
refusal-first start old lsn r p (Bad page) same h k = k
refusal-first start old lsn r p (Pending page) same h k = k
refusal-first start old lsn r p (TooOld s o) same h k = k
refusal-first start old lsn r p Home same h k = k
