-- What pages that were read in leave as it was.
use Rattle.std.proofs.Common.{◌≡◌, ℕ, ◌+◌, ◌≤◌, Bool, true, false, cond, eqb, ltb, leb, ◌&&◌, List, [], ◌++◌, refl, sym, ap, subst, ◌∙◌, inl, inr, arith}
use Rattle.std.specs.Prelude.{Option, Some, None}
use Rattle.std.proofs.lemmas.Bool.Decides.{eqb_tells}
use Rattle.ag_model.specs.declared.value.PageValue.{PageValue}
use Rattle.ag_model.specs.Rows.{stripe_of}
use Rattle.ag_page.specs.Home.{PutBack, HasRisen}
use Rattle.ag_stripe.specs.declared.fault.StripeFault.{StripeFault}
use Rattle.ag_stripe.specs.declared.fault.StripeFault.TheVariants.{Bad, Pending, TooOld, Home, Unlawful, NoMemory}
use Rattle.ag_stripe.specs.declared.slot.Slot.{Slot}
use Rattle.ag_stripe.specs.Tables.{Table, IsSameTable, is_own, slot_of, is_dirty}
use Rattle.ag_stripe.specs.Known.{Told, Known, Says, in_home, known_by, known}
use Rattle.ag_stripe.specs.Known.Known.{Value, NotSound, NotItsImage, Untold}
use Rattle.ag_stripe.specs.Reading.{OnlyReads, WasRead, IsReadFault}

pub says-refl : (k : Known) → Says k k
says-refl (Value v) = refl
says-refl NotSound = refl
says-refl NotItsImage = refl
says-refl Untold = tt

pub says-then : (a b c : Known) → Says a b → Says b c → Says a c
says-then (Value v) b c h k = subst (λ (x : Known). Says x c) h k
says-then NotSound b c h k = subst (λ (x : Known). Says x c) h k
says-then NotItsImage b c h k = subst (λ (x : Known). Says x c) h k
says-then Untold b c h k = tt

-- what has a value has no other
pub says-value : (a b : Known) (v : PageValue) → Says a b → a ≡ Value v → b ≡ Value v
says-value a b v h e = subst (λ (x : Known). Says x b) e h

pub says-bad : (a b : Known) → Says a b → a ≡ NotSound → b ≡ NotSound
says-bad a b h e = subst (λ (x : Known). Says x b) e h

pub value-bad : (v : PageValue) → Value v ≡ NotSound → ⊥
value-bad v e = cc

-- it is the same stripe
pub same-refl : (t : Table) → IsSameTable t t
same-refl t = record { number = refl; pages = refl }

pub same-then : (a b c : Table) → IsSameTable a b → IsSameTable b c → IsSameTable a c
same-then a b c h k = record { number = k.number ∙ h.number; pages = k.pages ∙ h.pages }

pub own-same : (a b : Table) → IsSameTable a b → (q : ℕ) → is_own b q ≡ is_own a q
own-same a b h q = λ i. leb 16 q && (ltb q (16 + h.pages i) && eqb (stripe_of q) (h.number i))

-- nothing was read
pub reads-none : (told : Told) (t : Table) → OnlyReads told t t
reads-none told t = record { same = same-refl t; dirty = λ q. refl; kept = λ q v e. e; known = λ q. says-refl (known told t q) }

pub reads-then : (told : Told) (a b c : Table) → OnlyReads told a b → OnlyReads told b c → OnlyReads told a c
reads-then told a b c h k = record {
  same = same-then a b c h.same k.same;
  dirty = λ q. k.dirty q ∙ h.dirty q;
  kept = λ q v e. k.kept q v (h.kept q v e);
  known = λ q. says-then (known told a q) (known told b q) (known told c q) (h.known q) (k.known q);
}

-- a page was read in
pub reads-one : (told : Told) (old new : Table) (page : ℕ) (v : PageValue) → IsSameTable old new
    → ((q : ℕ) → slot_of new q ≡ cond (eqb q page) (record { value = Some v; dirty = (slot_of old page).dirty }) (slot_of old q))
    → (slot_of old page).value ≡ None → Says (in_home told page) (Value v) → OnlyReads told old new
reads-one told old new page v same slots none home = record {
  same = same;
  dirty = λ q. elim (eqb_tells q page) [
    | inl here ↦ ap (λ (s : Slot). s.dirty) (at q here.0) ∙ ap (is_dirty old) (sym here.1)
    | inr away ↦ ap (λ (s : Slot). s.dirty) (off q away.0)
  ];
  kept = λ q w e. elim (eqb_tells q page) [
    | inl here ↦ (let f = ap (λ (p : ℕ). (slot_of old p).value) here.1 in cc)
    | inr away ↦ ap (λ (s : Slot). s.value) (off q away.0) ∙ e
  ];
  known = λ q. elim (eqb_tells q page) [
    | inl here ↦
        (let before : known told old q ≡ in_home told page = (λ i. known told old (here.1 i)) ∙ ap (known_by told page) none in
        let after : known told new q ≡ Value v = ap (known_by told q) (ap (λ (s : Slot). s.value) (at q here.0)) in
        subst (λ (k : Known). Says k (known told new q)) (sym before) (subst (λ (k : Known). Says (in_home told page) k) (sym after) home))
    | inr away ↦ subst (λ (o : Option PageValue). Says (known told old q) (known_by told q o)) (sym (ap (λ (s : Slot). s.value) (off q away.0))) (says-refl (known told old q))
  ];
}
  where
    at : (q : ℕ) → eqb q page ≡ true → slot_of new q ≡ record { value = Some v; dirty = (slot_of old page).dirty }
    at q e = slots q ∙ ap (λ (b : Bool). cond b (record { value = Some v; dirty = (slot_of old page).dirty }) (slot_of old q)) e

    off : (q : ℕ) → eqb q page ≡ false → slot_of new q ≡ slot_of old q
    off q e = slots q ∙ ap (λ (b : Bool). cond b (record { value = Some v; dirty = (slot_of old page).dirty }) (slot_of old q)) e

-- a weaker reason
pub fault-as : (page : ℕ) (P Q : Type 0) (e : StripeFault) → (P → Q) → IsReadFault page P e → IsReadFault page Q e
fault-as page P Q (Unlawful q) f h = (h.0, f h.1)
fault-as page P Q Home f h = tt
fault-as page P Q NoMemory f h = tt
fault-as page P Q (Bad q) f h = h
fault-as page P Q (Pending q) f h = h
fault-as page P Q (TooOld s o) f h = h

module _ {H : Type 0} (has_page : H → ℕ → Bool) (told : H → Told) (faults refusals : H → ℕ) (leaves : H → List PutBack → H → Type 0) where
  abbrev pub Read : H → H → Type 0
  Read a b = WasRead has_page told faults refusals leaves a b

  pub was_read-none : ((a : H) → leaves a [] a) → (a : H) → Read a a
  was_read-none itself a = record { tells = refl; pages = refl; faulty = omega arith; refused = omega arith; left = itself a }

  pub was_read-then : ((a b c : H) (xs ys : List PutBack) → leaves a xs b → leaves b ys c → leaves a (xs ++ ys) c) → (a b c : H) → Read a b → Read b c → Read a c
  was_read-then both a b c h k =
      let p = h.faulty in
      let q = k.faulty in
      let r = h.refused in
      let s = k.refused in
      record { tells = k.tells ∙ h.tells; pages = k.pages ∙ h.pages; faulty = omega arith; refused = omega arith; left = both a b c [] [] h.left k.left }

-- a count that has risen since has risen
pub risen-since : (a b c : ℕ) → a ≤ b → HasRisen b c → HasRisen a c
risen-since a b c le (inl lt) = inl (omega arith)
risen-since a b c le (inr top) = inr top
