-- What is seen of the pages once a stripe was read or redone.
use Rattle.std.proofs.Common.{◌≡◌, ℕ, ◌+◌, ◌<◌, ◌≤◌, ◌≢◌, Bool, true, false, cond, ◌&&◌, ◌||◌, eqb, leb, ltb, List, length, ◌%◌, lit<, eq-eqb, arith, refl, sym, ap, subst, ◌∙◌, inl, inr}
use Rattle.std.specs.List.{list_any}
use Rattle.std.proofs.Math.Bool.{or-false}
use Rattle.std.proofs.Math.Nat.{mod-lt}
use Rattle.std.proofs.lemmas.Bool.Decides.{eqb_tells, nat_tests}
use Rattle.std.proofs.lemmas.Bool.{and_left, eqb-true}
use Rattle.ag_model.specs.declared.record.Log.{Log}
use Rattle.ag_model.specs.declared.record.Record.{Record}
use Rattle.ag_model.specs.Rows.{stripe_of, page_of, touches}
use Rattle.ag_stripe.specs.declared.fault.StripeFault.{StripeFault}
use Rattle.ag_stripe.specs.declared.fault.StripeFault.TheVariants.{Bad, Pending, TooOld, Home, Unlawful, NoMemory}
use Rattle.ag_stripe.specs.declared.slot.Slot.{Slot}
use Rattle.ag_stripe.specs.declared.stripe.Away.{Away}
use Rattle.ag_stripe.specs.Ahead.{IsAhead, AreNext}
use Rattle.ag_stripe.specs.Answers.{IsApplyFault}
use Rattle.ag_stripe.specs.Known.{Told, Known, Says, known, known_by}
use Rattle.ag_stripe.specs.Known.Known.{Value, NotSound, NotItsImage, Untold}
use Rattle.ag_stripe.specs.Reading.{OnlyReads}
use Rattle.ag_stripe.specs.Redo.{AreDirtyKept, is_touched as is_touched_in}
use Rattle.ag_stripe.specs.Tables.{Table, IsSameTable, is_own, slot_of, is_dirty as is_dirty_in}
use Rattle.ag_stripe.specs.View.{StripeView}
use Rattle.ag_pages.specs.Views.{slot, Place, PagesView, pages_view, applied_of, is_page, is_of, is_dirty, known_of, IsStripe, IsAt, ArePlaces}
use Rattle.ag_pages.specs.Reading.{OnlyReadsIn}
use Rattle.ag_pages.specs.Redo.{is_touched, IsRedoFault}
use Rattle.ag_pages.proofs.Seats.{Swap, at-is, own-of, slot-is, swap-at, swap-before, swap-slot-was, swap-slot-now, swap-slot-other, swap-applied-was, swap-applied-same}

pub says-refl : (k : Known) → Says k k
says-refl (Value v) = refl
says-refl NotSound = refl
says-refl NotItsImage = refl
says-refl Untold = tt

pub says-along : (a b c d : Known) → c ≡ a → d ≡ b → Says a b → Says c d
says-along a b c d e f h = subst (λ (x : Known). Says x d) (sym e) (subst (λ (x : Known). Says a x) (sym f) h)

pub ahead-along : (log : Log) (page : ℕ) (pages pages' applied applied' : ℕ) (k k' : Known) → pages ≡ pages' → applied ≡ applied' → k ≡ k' → IsAhead pages log applied page k → IsAhead pages' log applied' page k'
ahead-along log page pages pages' applied applied' k k' e f g h =
    subst (λ (x : ℕ). IsAhead x log applied' page k') e (subst (λ (x : ℕ). IsAhead pages log x page k') f (subst (λ (x : Known). IsAhead pages log applied page x) g h))

pub next-along : (log : Log) (records : List Record) (pages pages' applied applied' : ℕ) → pages ≡ pages' → applied ≡ applied' → AreNext pages applied log records → AreNext pages' applied' log records
next-along log records pages pages' applied applied' e f h =
    subst (λ (x : ℕ). AreNext x applied' log records) e (subst (λ (x : ℕ). AreNext pages x log records) f h)

third : (a b c : Bool) → (a && (b && c)) ≡ true → c ≡ true
third true true c e = e
third true false c e = cc
third false b c e = cc

none : (a b c : Bool) → c ≡ false → (a && (b && c)) ≡ false
none true true c e = e
none true false c e = refl
none false b c e = refl

first-true : (a b : Bool) → (a && b) ≡ true → a ≡ true
first-true true b e = refl
first-true false b e = cc

-- a page of a stripe is in that stripe
pub of-stripe : (v : PagesView) (number page : ℕ) → is_of v number page ≡ true → stripe_of page ≡ number
of-stripe v number page e = eqb-true (stripe_of page) number (third (leb 16 page) (ltb page (16 + v.count)) (eqb (stripe_of page) number) e)

joins : (a b c : Bool) → (a && b) ≡ true → c ≡ true → (a && (b && c)) ≡ true
joins true true c e f = f
joins true false c e f = cc
joins false b c e f = cc

-- a data page is one of its own stripe
pub of-page : (v : PagesView) (page : ℕ) → is_page v page ≡ true → is_of v (stripe_of page) page ≡ true
of-page v page e = joins (leb 16 page) (ltb page (16 + v.count)) (eqb (stripe_of page) (stripe_of page)) e (eq-eqb (stripe_of page) (stripe_of page) refl)

pub own-page : (count : ℕ) (places : List Place) (s : StripeView Away) (page : ℕ) → ArePlaces count places → is_page (pages_view count places) page ≡ true → IsAt places (stripe_of page) s → is_own s.table page ≡ true
own-page count places s page all is at =
    own-of count (stripe_of page) s.table (pages_view count places) page refl (at-is count (stripe_of page) places s all (mod-lt page {m = 16} (lit< tt)) at) ∙ of-page (pages_view count places) page is

-- the page of a key is a data page
pub key-page : (v : PagesView) (key : ℕ) → 16 ≤ v.count → is_page v (page_of v.count key) ≡ true
key-page v key low =
    let lt : key % v.count < v.count = mod-lt key (omega (arith, low)) in
    grind (arith, nat_tests)

-- the stripe at the place of a key's page
pub key-at : (count key page : ℕ) (places : List Place) (s : StripeView Away) → page ≡ page_of count key → IsAt places (stripe_of page) s → IsAt places (stripe_of (page_of count key)) s
key-at count key page places s is at = subst (λ (p : ℕ). IsAt places (stripe_of p) s) is at

pub key-pages : (count key : ℕ) (places : List Place) (s : StripeView Away) → ArePlaces count places → IsAt places (stripe_of (page_of count key)) s → s.table.pages ≡ count
key-pages count key places s all at = (at-is count (stripe_of (page_of count key)) places s all (mod-lt (page_of count key) {m = 16} (lit< tt)) at).pages

pub key-own : (count key : ℕ) (places : List Place) (s : StripeView Away) → ArePlaces count places → IsAt places (stripe_of (page_of count key)) s → is_own s.table (page_of s.table.pages key) ≡ true
key-own count key places s all at =
    subst (λ (n : ℕ). is_own s.table (page_of n key) ≡ true) (sym (key-pages count key places s all at)) (own-page count places s (page_of count key) all (key-page (pages_view count places) key all.low) at)

-- a page of another stripe isn't touched
other-touched : (v : PagesView) (number : ℕ) (records : List Record) (page : ℕ) → eqb (stripe_of page) number ≡ false → is_touched v number records page ≡ false
other-touched v number records page e =
    and_left (is_of v number page) (list_any (touches v.count page) records) (none (leb 16 page) (ltb page (16 + v.count)) (eqb (stripe_of page) number) e)

pub touched-stripe : (v : PagesView) (number : ℕ) (records : List Record) (page : ℕ) → is_touched v number records page ≡ true → stripe_of page ≡ number
touched-stripe v number records page e = of-stripe v number page (first-true (is_of v number page) (list_any (touches v.count page) records) e)

-- the records touch these pages of a stripe
pub touched-of : (count number : ℕ) (t : Table) (v : PagesView) (records : List Record) (page : ℕ) → v.count ≡ count → IsStripe count number t → is_touched_in t records page ≡ is_touched v number records page
touched-of count number t v records page e h = λ i. own-of count number t v page e h i && list_any (touches ((h.pages ∙ sym e) i) page) records

-- a stripe that was read is the same stripe
pub reads-stripe : (count number : ℕ) (told : Told) (old new : Table) → OnlyReads told old new → IsStripe count number old → IsStripe count number new
reads-stripe count number told old new r h = record {
  number = r.same.number ∙ h.number;
  pages = r.same.pages ∙ h.pages;
  kept = λ page d. let k = h.kept page (sym (r.dirty page) ∙ d) in (k.0, r.kept page k.0 k.1);
}

-- and so is one that was redone
pub redone-stripe : (count number : ℕ) (old new : Table) → IsSameTable old new → (AreDirtyKept old → AreDirtyKept new) → IsStripe count number old → IsStripe count number new
redone-stripe count number old new same kept h = record { number = same.number ∙ h.number; pages = same.pages ∙ h.pages; kept = kept h.kept }

was-dirty : (b d : Bool) → cond b false d ≡ true → d ≡ true
was-dirty true d e = cc
was-dirty false d e = e

-- and one of whose pages the image was written
pub cleaned-stripe : (count number page : ℕ) (old new : Table) → IsSameTable old new → ((q : ℕ) → (slot_of new q).value ≡ (slot_of old q).value) → ((q : ℕ) → is_dirty_in new q ≡ cond (eqb q page) false (is_dirty_in old q))
    → IsStripe count number old → IsStripe count number new
cleaned-stripe count number page old new same values dirty h = record {
  number = same.number ∙ h.number;
  pages = same.pages ∙ h.pages;
  kept = λ q d. let k = h.kept q (was-dirty (eqb q page) (is_dirty_in old q) (sym (dirty q) ∙ d)) in (k.0, values q ∙ k.1);
}

-- what is known of a page, by its stripe
pub known-is : (told : Told) (count number : ℕ) (places : List Place) (s : StripeView Away) (page : ℕ) → IsAt places number s → stripe_of page ≡ number → known_of told (pages_view count places) page ≡ known told s.table page
known-is told count number places s page at e = ap (λ (x : Slot). known_by told page x.value) (slot-is count number places s page at e)

module _ (count number : ℕ) (old new : List Place) (before after : StripeView Away) (h : Swap count number old new before after) where
  known-was : (told : Told) (page : ℕ) → stripe_of page ≡ number → known_of told (pages_view count old) page ≡ known told before.table page
  known-was told page e = known-is told count number old before page h.was e

  known-now : (told : Told) (page : ℕ) → stripe_of page ≡ number → known_of told (pages_view count new) page ≡ known told after.table page
  known-now told page e = known-is told count number new after page (swap-at count number old new before after h) e

  slot-was : (page : ℕ) → stripe_of page ≡ number → slot (pages_view count old) page ≡ slot_of before.table page
  slot-was page e = swap-slot-was count number old new before after h page e

  slot-now : (page : ℕ) → stripe_of page ≡ number → slot (pages_view count new) page ≡ slot_of after.table page
  slot-now page e = swap-slot-now count number old new before after h page e

  slot-other : (page : ℕ) → stripe_of page ≢ number → slot (pages_view count new) page ≡ slot (pages_view count old) page
  slot-other page apart = swap-slot-other count number old new before after h page apart

  own : (page : ℕ) → is_own before.table page ≡ is_of (pages_view count old) number page
  own page = own-of count number before.table (pages_view count old) page refl (swap-before count number old new before after h)

  touched : (records : List Record) (page : ℕ) → is_touched_in before.table records page ≡ is_touched (pages_view count old) number records page
  touched records page = touched-of count number before.table (pages_view count old) records page refl (swap-before count number old new before after h)

  pages-are : before.table.pages ≡ count
  pages-are = (swap-before count number old new before after h).pages

  applied-was : applied_of (pages_view count old) number ≡ before.applied
  applied-was = swap-applied-was count number old new before after h

  -- where the stripe was only read, so were the pages
  pub swap-reads : (told : Told) → OnlyReads told before.table after.table → after.applied ≡ before.applied → OnlyReadsIn told (pages_view count old) (pages_view count new)
  swap-reads told r e = record {
    count = refl;
    applied = swap-applied-same count number old new before after h e;
    dirty = λ page. elim (eqb_tells (stripe_of page) number) [
      | inl here ↦ ap (λ (s : Slot). s.dirty) (slot-now page here.1) ∙ r.dirty page ∙ sym (ap (λ (s : Slot). s.dirty) (slot-was page here.1))
      | inr apart ↦ ap (λ (s : Slot). s.dirty) (slot-other page apart.1)
    ];
    kept = λ page v k. elim (eqb_tells (stripe_of page) number) [
      | inl here ↦ ap (λ (s : Slot). s.value) (slot-now page here.1) ∙ r.kept page v (sym (ap (λ (s : Slot). s.value) (slot-was page here.1)) ∙ k)
      | inr apart ↦ ap (λ (s : Slot). s.value) (slot-other page apart.1) ∙ k
    ];
    known = λ page. elim (eqb_tells (stripe_of page) number) [
      | inl here ↦ says-along (known told before.table page) (known told after.table page) _ _ (known-was told page here.1) (known-now told page here.1) (r.known page)
      | inr apart ↦ says-along (known_of told (pages_view count old) page) (known_of told (pages_view count old) page) _ _ refl (ap (λ (s : Slot). known_by told page s.value) (slot-other page apart.1)) (says-refl (known_of told (pages_view count old) page))
    ];
  }

  -- what redo leaves
  module _ (records : List Record) where
    pub swap-values : (told : Told) → ((log : Log) (page : ℕ) → AreNext before.table.pages before.applied log records → is_own before.table page ≡ true → IsAhead before.table.pages log before.applied page (known told before.table page) → IsAhead before.table.pages log after.applied page (known told after.table page))
        → after.applied ≡ before.applied + length records
        → (log : Log) (page : ℕ) → AreNext count (applied_of (pages_view count old) number) log records → is_of (pages_view count old) number page ≡ true
        → IsAhead count log (applied_of (pages_view count old) number) page (known_of told (pages_view count old) page)
        → IsAhead count log (applied_of (pages_view count old) number + length records) page (known_of told (pages_view count new) page)
    swap-values told values end log page next of ahead =
        let e = of-stripe (pages_view count old) number page of in
        ahead-along log page before.table.pages count after.applied _ (known told after.table page) _ pages-are (end ∙ ap (λ (n : ℕ). n + length records) (sym applied-was)) (sym (known-now told page e))
        (values log page (next-along log records count before.table.pages _ before.applied (sym pages-are) applied-was next) (own page ∙ of)
        (ahead-along log page count before.table.pages _ before.applied _ (known told before.table page) (sym pages-are) applied-was (known-was told page e) ahead))

    pub swap-dirty : ((page : ℕ) → is_dirty_in after.table page ≡ (is_dirty_in before.table page || is_touched_in before.table records page))
        → (page : ℕ) → is_dirty (pages_view count new) page ≡ (is_dirty (pages_view count old) page || is_touched (pages_view count old) number records page)
    swap-dirty dirty page = elim (eqb_tells (stripe_of page) number) [
      | inl here ↦ ap (λ (s : Slot). s.dirty) (slot-now page here.1) ∙ dirty page ∙ (λ i. (sym (slot-was page here.1) i).dirty || touched records page i)
      | inr apart ↦
          ap (λ (s : Slot). s.dirty) (slot-other page apart.1)
          ∙ sym (ap (λ (b : Bool). is_dirty (pages_view count old) page || b) (other-touched (pages_view count old) number records page apart.0) ∙ or-false (is_dirty (pages_view count old) page))
    ]

    pub swap-untouched : ((page : ℕ) → is_touched_in before.table records page ≡ false → slot_of after.table page ≡ slot_of before.table page)
        → (page : ℕ) → is_touched (pages_view count old) number records page ≡ false → slot (pages_view count new) page ≡ slot (pages_view count old) page
    swap-untouched others page e = elim (eqb_tells (stripe_of page) number) [
      | inl here ↦ slot-now page here.1 ∙ others page (touched records page ∙ e) ∙ sym (slot-was page here.1)
      | inr apart ↦ slot-other page apart.1
    ]

    pub swap-sound : (told : Told) → ((page : ℕ) → is_touched_in before.table records page ≡ true → known told before.table page ≡ NotSound → ⊥)
        → (page : ℕ) → is_touched (pages_view count old) number records page ≡ true → known_of told (pages_view count old) page ≡ NotSound → ⊥
    swap-sound told sound page e bad = sound page (touched records page ∙ e) (sym (known-was told page (touched-stripe (pages_view count old) number records page e)) ∙ bad)

    pub swap-fault : (told : Told) (e : StripeFault) → IsApplyFault told before.table before.applied records e → IsRedoFault told (pages_view count old) number records e
    swap-fault told (Bad page) f =
        let t = sym (touched records page) ∙ f.touched in
        record {
          touched = t;
          bad = subst (λ (k : Known). Says k NotSound) (sym (known-was told page (touched-stripe (pages_view count old) number records page t))) f.bad;
          least = λ q u bad. f.least q (touched records q ∙ u) (sym (known-was told q (touched-stripe (pages_view count old) number records q u)) ∙ bad);
        }
    swap-fault told (Unlawful page) f =
        let t = sym (touched records page) ∙ f.touched in
        record {
          touched = t;
          never = λ log next ahead. f.never log (next-along log records count before.table.pages _ before.applied (sym pages-are) applied-was next)
              (ahead-along log page count before.table.pages _ before.applied _ (known told before.table page) (sym pages-are) applied-was (known-was told page (touched-stripe (pages_view count old) number records page t)) ahead);
        }
    swap-fault told (Pending page) f = f
    swap-fault told (TooOld snapshot horizon) f = f
    swap-fault told Home f = tt
    swap-fault told NoMemory f = tt
