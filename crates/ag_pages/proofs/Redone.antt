-- What redo on one stripe leaves of the pages.
use Rattle.std.proofs.Common.{◌≡◌, ℕ, ◌+◌, ◌<◌, true, false, cond, ◌||◌, eqb, List, length, set, sym, ap, ◌∙◌, Ok, Err, OnOk, IfErr, refl}
use Rattle.std.specs.Prelude.{Result, None, Some}
use Rattle.std.proofs.lemmas.Bool.{eqb-false}
use Rattle.ag_model.specs.declared.record.Log.{Log}
use Rattle.ag_model.specs.declared.record.Record.{Record}
use Rattle.ag_model.specs.Rows.{stripe_of}
use Rattle.ag_stripe.specs.declared.fault.StripeFault.{StripeFault}
use Rattle.ag_stripe.specs.declared.fault.StripeFault.TheVariants.{Bad}
use Rattle.ag_stripe.specs.declared.stripe.Away.{Away}
use Rattle.ag_stripe.specs.Ahead.{IsAhead, AreNext}
use Rattle.ag_stripe.specs.Answers.{IsApplyFault}
use Rattle.ag_stripe.specs.Known.{Told, known}
use Rattle.ag_stripe.specs.Known.Known.{NotSound}
use Rattle.ag_stripe.specs.Reading.{OnlyReads}
use Rattle.ag_stripe.specs.Redo.{AreDirtyKept, is_touched as is_touched_in}
use Rattle.ag_stripe.specs.Tables.{IsSameTable, is_own, slot_of, is_dirty as is_dirty_in}
use Rattle.ag_stripe.specs.View.{StripeView}
use Rattle.ag_pages.specs.Views.{slot, Place, PagesView, pages_view, applied_of, is_of, is_dirty, known_of, IsAt, ArePlaces}
use Rattle.ag_pages.specs.Reading.{OnlyReadsIn}
use Rattle.ag_pages.specs.Redo.{is_touched, IsRedoFault}
use Rattle.ag_pages.proofs.Seats.{Swap, swap-of, at-is, swap-slot-other, swap-applied, swap-applied-was, swap-applied-other}
use Rattle.ag_pages.proofs.Swaps.{redone-stripe, reads-stripe, cleaned-stripe, swap-reads, swap-values, swap-dirty, swap-untouched, swap-sound, swap-fault}

-- redo of a stripe, as its contract has it
pub record RedoneStripe (told : Told) (records : List Record) (before after : StripeView Away) (result : Result (Unit {0}) StripeFault) : Type 0 where
  pub values : OnOk result ((log : Log) (page : ℕ) → AreNext before.table.pages before.applied log records → is_own before.table page ≡ true
      → IsAhead before.table.pages log before.applied page (known told before.table page) → IsAhead before.table.pages log after.applied page (known told after.table page))
  pub others : OnOk result ((page : ℕ) → is_touched_in before.table records page ≡ false → slot_of after.table page ≡ slot_of before.table page)
  pub dirty : OnOk result ((page : ℕ) → is_dirty_in after.table page ≡ (is_dirty_in before.table page || is_touched_in before.table records page))
  pub applied : OnOk result (after.applied ≡ before.applied + length records)
  pub same : IsSameTable before.table after.table
  pub sound : OnOk result ((page : ℕ) → is_touched_in before.table records page ≡ true → known told before.table page ≡ NotSound → ⊥)
  pub fault : IfErr result (IsApplyFault told before.table before.applied records)
  pub unchanged : (page : ℕ) → result ≡ Err (Bad page) → OnlyReads told before.table after.table × (after.applied ≡ before.applied)
  pub kept : AreDirtyKept before.table → AreDirtyKept after.table

-- redo of a stripe of the pages, as the contract has it
pub record RedonePages (told : Told) (records : List Record) (number : ℕ) (old new : PagesView) (result : Result (Unit {0}) StripeFault) : Type 0 where
  pub values : OnOk result ((log : Log) (page : ℕ) → AreNext old.count (applied_of old number) log records → is_of old number page ≡ true
      → IsAhead old.count log (applied_of old number) page (known_of told old page) → IsAhead old.count log (applied_of old number + length records) page (known_of told new page))
  pub applied : OnOk result (new.applied ≡ set old.applied number (applied_of old number + length records))
  pub dirty : OnOk result ((page : ℕ) → is_dirty new page ≡ (is_dirty old page || is_touched old number records page))
  pub untouched : OnOk result ((page : ℕ) → is_touched old number records page ≡ false → slot new page ≡ slot old page)
  pub sound : OnOk result ((page : ℕ) → is_touched old number records page ≡ true → known_of told old page ≡ NotSound → ⊥)
  pub fault : IfErr result (IsRedoFault told old number records)
  pub unchanged : (page : ℕ) → result ≡ Err (Bad page) → OnlyReadsIn told old new
  pub count : new.count ≡ old.count
  pub others : (page : ℕ) → eqb (stripe_of page) number ≡ false → slot new page ≡ slot old page
  pub others_applied : (other : ℕ) → eqb other number ≡ false → applied_of new other ≡ applied_of old other

on-ok : (r : Result (Unit {0}) StripeFault) (P Q : Type 0) → (P → Q) → OnOk r P → OnOk r Q
on-ok (Ok x) P Q f p = f p
on-ok (Err e) P Q f p = tt

on-both : (r : Result (Unit {0}) StripeFault) (P Q R : Type 0) → (P → Q → R) → OnOk r P → OnOk r Q → OnOk r R
on-both (Ok x) P Q R f p q = f p q
on-both (Err e) P Q R f p q = tt

if-err : (r : Result (Unit {0}) StripeFault) (P Q : StripeFault → Type 0) → ((e : StripeFault) → P e → Q e) → IfErr r P → IfErr r Q
if-err (Ok x) P Q f p = tt
if-err (Err e) P Q f p = f e p

module _ (count number : ℕ) (old new : List Place) (before after : StripeView Away) (h : Swap count number old new before after) (told : Told) (records : List Record) (result : Result (Unit {0}) StripeFault) (r : RedoneStripe told records before after result) where
  pub redone-pages : RedonePages told records number (pages_view count old) (pages_view count new) result
  redone-pages = record {
    values = on-both result _ _ _ (λ v e. swap-values count number old new before after h records told v e) r.values r.applied;
    applied = on-ok result _ _ (λ e. swap-applied count number old new before after h ∙ ap (λ (n : ℕ). set (pages_view count old).applied number n) (e ∙ ap (λ (n : ℕ). n + length records) (sym (swap-applied-was count number old new before after h)))) r.applied;
    dirty = on-ok result _ _ (λ d. swap-dirty count number old new before after h records d) r.dirty;
    untouched = on-ok result _ _ (λ o. swap-untouched count number old new before after h records o) r.others;
    sound = on-ok result _ _ (λ s. swap-sound count number old new before after h records told s) r.sound;
    fault = if-err result _ _ (λ e f. swap-fault count number old new before after h records told e f) r.fault;
    unchanged = λ page e. let u = r.unchanged page e in swap-reads count number old new before after h told u.0 u.1;
    count = refl;
    others = λ page e. swap-slot-other count number old new before after h page (eqb-false (stripe_of page) number e);
    others_applied = λ other e. swap-applied-other count number old new before after h other (eqb-false other number e);
  }

-- the pages with a stripe redone
pub redone-swap : (count number : ℕ) (old mid new : List Place) (before after : StripeView Away) (told : Told) (records : List Record) (result : Result (Unit {0}) StripeFault)
    → number < 16 → ArePlaces count old → IsAt old number before → mid ≡ set old number None → new ≡ set mid number (Some after) → RedoneStripe told records before after result
    → Swap count number old new before after
redone-swap count number old mid new before after told records result small places was out in_place r =
    swap-of count number old mid new before after small places was out in_place (redone-stripe count number before.table after.table r.same r.kept (at-is count number old before places small was))

-- the pages with a stripe one of whose pages is clean
pub cleaned-swap : (count number page : ℕ) (old mid new : List Place) (before after : StripeView Away) → number < 16 → ArePlaces count old → IsAt old number before → mid ≡ set old number None → new ≡ set mid number (Some after) → IsSameTable before.table after.table
    → ((q : ℕ) → (slot_of after.table q).value ≡ (slot_of before.table q).value) → ((q : ℕ) → is_dirty_in after.table q ≡ cond (eqb q page) false (is_dirty_in before.table q)) → Swap count number old new before after
cleaned-swap count number page old mid new before after small places was out in_place same values dirty =
    swap-of count number old mid new before after small places was out in_place (cleaned-stripe count number page before.table after.table same values dirty (at-is count number old before places small was))

-- the pages with a stripe read
pub read-swap : (count number : ℕ) (old mid new : List Place) (before after : StripeView Away) (told : Told)
    → number < 16 → ArePlaces count old → IsAt old number before → mid ≡ set old number None → new ≡ set mid number (Some after) → OnlyReads told before.table after.table
    → Swap count number old new before after
read-swap count number old mid new before after told small places was out in_place r =
    swap-of count number old mid new before after small places was out in_place (reads-stripe count number told before.table after.table r (at-is count number old before places small was))
