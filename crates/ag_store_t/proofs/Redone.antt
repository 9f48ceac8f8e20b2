-- Pages on which the block is redone, by themselves.
use Rattle.std.proofs.Common.{◌≡◌, ◌+◌, ℕ, List, length, true, false, eqb, leb, ltb, Some, inl, inr, refl, sym, ap, subst, ◌∙◌, arith}
use Rattle.std.specs.Prelude.{◌==◌, ◌&&◌, replicate}
use Rattle.std.proofs.lemmas.Bool.{and_parts, cases_Bool}
use Rattle.ag_model.specs.declared.record.Log.{Log}
use Rattle.ag_model.specs.declared.record.Record.{Record}
use Rattle.ag_model.specs.Page.{value}
use Rattle.ag_model.specs.Rows.{stripe_of}
use Rattle.ag_outside.specs.Disks.{Image}
use Rattle.ag_page.specs.Image.{image}
use Rattle.ag_stripe.specs.declared.slot.Slot.{Slot}
use Rattle.ag_stripe.specs.Ahead.{AreNext, IsAhead}
use Rattle.ag_stripe.specs.Known.{Known, empty_page, in_image, known_by}
use Rattle.ag_stripe.specs.Known.Known.{Value}
use Rattle.ag_stripe.specs.Tables.{empty_slot}
use Rattle.ag_pages.specs.Views.{PagesView, applied_of, is_of, is_page, known_of, slot}
use Rattle.ag_store.specs.Standing.{told_on}
use Rattle.ag_store.proofs.Pages.{zero-home}
use Rattle.ag_store_t.specs.Parts.{AreParts, new_log, new_records}
use Rattle.ag_store_t.proofs.Logs.{proper}

-- after the first record each page is empty
first_value : (page : ℕ) → value 16 new_log.records 1 page ≡ empty_page page
unfolding value
first_value page = refl

-- pages that stand at the first record, none of which is read in
pub opened : (on : Image) (v : PagesView) → ((page : ℕ) → in_image page (image 0 (replicate 8176 0)) ≡ Value (empty_page page))
    → ((at : ℕ) → on at ≡ Some (replicate 512 0)) → v.count ≡ 16 → ((page : ℕ) → slot v page ≡ empty_slot) → AreParts on v
opened on v says zeros count empty = record {
  zeros = zeros;
  sixteen = count;
  ahead = λ page is. record {
    lsn = 1;
    low = omega arith;
    high = omega arith;
    value = ap (λ (s : Slot). known_by (told_on on) page s.value) (empty page) ∙ zero-home on page zeros (says page) ∙ ap Value (sym (first_value page));
  };
}

next : AreNext 16 1 new_log new_records
next = record { proper = proper; reach = omega arith; stand = refl }

-- a page on which the records after the first are redone
gone_on : (n a : ℕ) (rs : List Record) (page : ℕ) (k after : Known) → n ≡ 16 → a ≡ 1 → rs ≡ new_records
    → (AreNext n a new_log rs → IsAhead n new_log a page k → IsAhead n new_log (a + length rs) page after)
    → IsAhead 16 new_log 1 page k → IsAhead 16 new_log 1 page after
gone_on n a rs page k after is_n is_a is_rs law ahead =
    let goes : AreNext 16 1 new_log new_records → IsAhead 16 new_log 1 page k → IsAhead 16 new_log 3 page after =
    subst (λ (m : ℕ). AreNext m 1 new_log new_records → IsAhead m new_log 1 page k → IsAhead m new_log 3 page after) is_n
    (subst (λ (b : ℕ). AreNext n b new_log new_records → IsAhead n new_log b page k → IsAhead n new_log (b + 2) page after) is_a
    (subst (λ (xs : List Record). AreNext n a new_log xs → IsAhead n new_log a page k → IsAhead n new_log (a + length xs) page after) is_rs law)) in
    let there = goes next ahead in
    record { lsn = there.lsn; low = omega (arith, there.low); high = there.high; value = there.value }

-- the pages of one stripe went on, and the others stayed
module _ (on later : Image) (old new : PagesView) (stripe : ℕ) (records : List Record) (parts : AreParts on old) (one : applied_of old stripe ≡ 1) (is_records : records ≡ new_records)
    (same : later ≡ on) (count : new.count ≡ old.count) (others : (page : ℕ) → (stripe_of page == stripe) ≡ false → slot new page ≡ slot old page)
    (law : (log : Log) (page : ℕ) → AreNext old.count (applied_of old stripe) log records → is_of old stripe page ≡ true
    → IsAhead old.count log (applied_of old stripe) page (known_of (told_on on) old page)
    → IsAhead old.count log (applied_of old stripe + length records) page (known_of (told_on on) new page)) where
  own : (page : ℕ) → is_page new page ≡ true → is_page old page ≡ true
  own page is = subst (λ (n : ℕ). (leb 16 page && ltb page (16 + n)) ≡ true) count is

  of_stripe : (page : ℕ) → is_page old page ≡ true → (stripe_of page == stripe) ≡ true → is_of old stripe page ≡ true
  of_stripe page is here =
      let parts = and_parts (leb 16 page) (ltb page (16 + old.count)) is in
      simp (parts.0, parts.1, here) refl

  ahead : (page : ℕ) → is_page new page ≡ true → IsAhead 16 new_log 1 page (known_of (told_on on) new page)
  ahead page is = elim (cases_Bool (eqb (stripe_of page) stripe)) [
    | inl here ↦
        gone_on old.count (applied_of old stripe) records page (known_of (told_on on) old page) (known_of (told_on on) new page) parts.sixteen one is_records
        (λ stand. law new_log page stand (of_stripe page (own page is) here)) (parts.ahead page (own page is))
    | inr apart ↦ subst (λ (s : Slot). IsAhead 16 new_log 1 page (known_by (told_on on) page s.value)) (sym (others page apart)) (parts.ahead page (own page is))
  ]

  pub redone : AreParts later new
  redone = subst (λ (x : Image). AreParts x new) (sym same) (record { zeros = parts.zeros; sixteen = count ∙ parts.sixteen; ahead = ahead })
