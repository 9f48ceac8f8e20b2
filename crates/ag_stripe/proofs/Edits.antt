-- What redo leaves, also where it is refused.
use Rattle.std.proofs.Common.{◌≡◌, ℕ, ◌<◌, Bool, true, false, cond, ◌&&◌, List, length, refl, sym, ap, ◌∙◌, inl, inr, set, get_or}
use Rattle.std.specs.Prelude.{Option, Some, None}
use Rattle.std.specs.Option.{is_some}
use Rattle.std.proofs.lemmas.Bool.{and_parts, cases_Bool, false_from_ne_true, false≢true}
use Rattle.std.proofs.lemmas.Bool.Decides.{eqb_tells}
use Rattle.ag_model.specs.declared.record.Record.{Record}
use Rattle.ag_model.specs.declared.value.PageValue.{PageValue}
use Rattle.ag_model.specs.Rows.{touches}
use Rattle.ag_stripe.specs.declared.slot.Slot.{Slot}
use Rattle.ag_stripe.specs.Known.{Told}
use Rattle.ag_stripe.specs.Reading.{OnlyReads}
use Rattle.ag_stripe.specs.Redo.{OnlyEdits, AreKept, AreDirtyKept, is_touched}
use Rattle.ag_stripe.specs.Tables.{Table, IsTable, IsSameTable, is_own, slot_of, place_of}
use Rattle.ag_stripe.proofs.Readings.{own-same}
use Rattle.ag_stripe.proofs.Slots.{slot-at, slot-edited}
use Rattle.ag_stripe.proofs.Visits.{touched-one}

-- nothing was edited
pub edits-none : (t : Table) (edited : ℕ → Bool) → OnlyEdits t t edited
edits-none t edited = record { kept = λ q k. k; others = λ q off. refl }

pub edits-then : (a b c : Table) (edited : ℕ → Bool) → OnlyEdits a b edited → OnlyEdits b c edited → OnlyEdits a c edited
edits-then a b c edited h k = record { kept = λ q e. k.kept q (h.kept q e); others = λ q off. k.others q off ∙ h.others q off }

-- pages that are edited more
pub edits-wider : (old new : Table) (p q : ℕ → Bool) → ((x : ℕ) → q x ≡ false → p x ≡ false) → OnlyEdits old new p → OnlyEdits old new q
edits-wider old new p q more h = record { kept = h.kept; others = λ x off. h.others x (more x off) }

-- what a record touches, as the table stood before
pub edits-since : (start old new : Table) (r : Record) → IsSameTable start old → OnlyEdits old new (λ q. is_own old q && touches old.pages q r) → OnlyEdits old new (λ q. is_own start q && touches start.pages q r)
edits-since start old new r same h = edits-wider old new (λ q. is_own old q && touches old.pages q r) (λ q. is_own start q && touches start.pages q r) (λ q off. (λ i. own-same start old same q i && touches (same.pages i) q r) ∙ off) h

-- what one of the records touches
pub edits-touched : (start old new : Table) (records : List Record) (r : Record) (i : ℕ) → IsSameTable start old → i < length records → r ≡ get_or records i r → OnlyEdits old new (λ q. is_own old q && touches old.pages q r) → OnlyEdits old new (is_touched start records)
edits-touched start old new records r i same lt there h =
    edits-wider old new (λ q. is_own old q && touches old.pages q r) (is_touched start records)
    (λ x off. false_from_ne_true (is_own old x && touches old.pages x r) (λ on.
    let parts = and_parts (is_own old x) (touches old.pages x r) on in
    false≢true (sym off ∙ touched-one start old records r i x same lt there (sym (own-same start old same x) ∙ parts.0) parts.1)))
    h

some-value : (o n : Option PageValue) (v : PageValue) → is_some n ≡ is_some o → o ≡ Some v → (w : PageValue) × (n ≡ Some w)
some-value o (Some w) v same e = (w, refl)
some-value o None v same e = (let f : false ≡ true = same ∙ ap is_some e in cc)

-- the slot of a page became another one
pub edits-slot : (t now : Table) (page k : ℕ) (s old : Slot) (edited : ℕ → Bool) → t ≡ now → IsTable t → is_own now page ≡ true → k ≡ place_of page → old ≡ get_or t.slots k old
    → is_some s.value ≡ is_some old.value → edited page ≡ true → OnlyEdits now (record { number = t.number; pages = t.pages; slots = set t.slots k s }) edited
edits-slot t now page k s old edited is h own at there some on =
    let slots = slot-edited t now page k (λ (x : Slot). s) old is h own at there in
    let was : old ≡ slot_of now page = there ∙ slot-at t now page k old is h own at in
    record {
      kept = λ q e. elim (eqb_tells q page) [
        | inl here ↦
            (let new = some-value old.value s.value e.0 some (ap (λ (x : Slot). x.value) was ∙ ap (λ (p : ℕ). (slot_of now p).value) (sym here.1) ∙ e.1) in
            (new.0, ap (λ (x : Slot). x.value) (slots q ∙ ap (λ (b : Bool). cond b s (slot_of now q)) here.0) ∙ new.1))
        | inr away ↦ (e.0, ap (λ (x : Slot). x.value) (slots q ∙ ap (λ (b : Bool). cond b s (slot_of now q)) away.0) ∙ e.1)
      ];
      others = λ q off. elim (eqb_tells q page) [
        | inl here ↦ absurd (false≢true (sym off ∙ ap edited here.1 ∙ on))
        | inr away ↦ slots q ∙ ap (λ (b : Bool). cond b s (slot_of now q)) away.0
      ];
    }

-- ---- the dirty pages

-- a dirty page stays in memory where pages are read in
pub dirty-read : (told : Told) (old new : Table) → OnlyReads told old new → AreDirtyKept old → AreDirtyKept new
dirty-read told old new reads all q on = let k = all q (sym (reads.dirty q) ∙ on) in (k.0, reads.kept q k.0 k.1)

-- and where pages in memory are edited
pub dirty-edited : (mid new : Table) (records : List Record) → OnlyEdits mid new (is_touched mid records) → AreKept mid records → AreDirtyKept mid → AreDirtyKept new
dirty-edited mid new records edits there all q on = elim (cases_Bool (is_touched mid records q)) [
  | inl hit ↦ edits.kept q (there q hit)
  | inr off ↦ edits.kept q (all q (sym (ap (λ (s : Slot). s.dirty) (edits.others q off)) ∙ on))
]
