-- The next records of a log, on pages that were read in.
use Rattle.std.proofs.Common.{◌≡◌, ℕ, ◌+◌, ◌≤◌, true, false, ◌&&◌, List, length, refl, sym, ap, subst, ◌∙◌, inl, inr, ◌⊎◌}
use Rattle.std.specs.Prelude.{Some, None}
use Rattle.std.specs.List.{list_any}
use Rattle.std.proofs.lemmas.Bool.{and_parts}
use Rattle.ag_model.specs.declared.record.Log.{Log}
use Rattle.ag_model.specs.declared.record.Record.{Record}
use Rattle.ag_model.specs.declared.value.PageValue.{PageValue}
use Rattle.ag_model.specs.Rows.{touches}
use Rattle.ag_stripe.specs.declared.fault.StripeFault.{StripeFault}
use Rattle.ag_stripe.specs.declared.fault.StripeFault.TheVariants.{Bad, Pending, TooOld, Home, Unlawful, NoMemory}
use Rattle.ag_stripe.specs.Ahead.{IsAhead, AreNext}
use Rattle.ag_stripe.specs.Answers.{IsApplyFault, IsLeastBad}
use Rattle.ag_stripe.specs.Known.{Told, Known, Says, known, known_by}
use Rattle.ag_stripe.specs.Known.Known.{Value, NotSound, NotItsImage}
use Rattle.ag_stripe.specs.Reading.{OnlyReads}
use Rattle.ag_stripe.specs.Redo.{AreKept, AreDirtyKept, IsKept, OnlyEdits, IsUnlawful, is_touched}
use Rattle.ag_stripe.specs.Tables.{Table, is_own, slot_of}
use Rattle.ag_stripe.specs.Visits.{Visits, IsAtMost, IsVisitFault}
use Rattle.ag_stripe.proofs.Edits.{dirty-read, dirty-edited}
use Rattle.ag_stripe.proofs.Readings.{own-same, says-value, says-bad, value-bad}

module _ (told : Told) (old mid : Table) (records : List Record) (reads : OnlyReads told old mid) where
  touched-mid : (q : ℕ) → is_touched mid records q ≡ is_touched old records q
  touched-mid q = λ i. own-same old mid reads.same q i && list_any (touches (reads.same.pages i) q) records

  -- with no bad page all that the records touch was read in
  pub all-kept : Visits told old mid None None (is_touched old records) → AreKept mid records
  all-kept h q on =
      let hit : is_touched old records q ≡ true = sym (touched-mid q) ∙ on in
      by_case (h.found q (and_parts (is_own old q) (list_any (touches old.pages q) records) hit).0 hit)
    where
      by_case : (IsKept mid q ⊎ IsAtMost None q) → IsKept mid q
      by_case (inl kept) = kept
      by_case (inr none) = absurd none

  -- and none was bad
  pub all-sound : Visits told old mid None None (is_touched old records) → (q : ℕ) → is_touched old records q ≡ true → known told old q ≡ NotSound → ⊥
  all-sound h q on bad =
      let kept = all-kept h q (touched-mid q ∙ on) in
      value-bad kept.0 (sym (ap (known_by told q) kept.1) ∙ says-bad (known told old q) (known told mid q) (reads.known q) bad)

  -- what they don't touch is left
  pub others-after : (new : Table) → Visits told old mid None None (is_touched old records) → OnlyEdits mid new (is_touched mid records) → (q : ℕ) → is_touched old records q ≡ false → slot_of new q ≡ slot_of old q
  others-after new h edits q off = edits.others q (touched-mid q ∙ off) ∙ h.others q off

  -- a dirty page stays in memory
  pub dirty-after : (new : Table) → Visits told old mid None None (is_touched old records) → OnlyEdits mid new (is_touched mid records) → AreDirtyKept old → AreDirtyKept new
  dirty-after new h edits all = dirty-edited mid new records edits (all-kept h) (dirty-read told old mid reads all)

  ahead-mid : (pages applied : ℕ) (log : Log) (q : ℕ) → IsAhead pages log applied q (known told old q) → IsAhead pages log applied q (known told mid q)
  ahead-mid pages applied log q h = record { lsn = h.lsn; low = h.low; high = h.high; value = says-value (known told old q) (known told mid q) _ (reads.known q) h.value }

  -- the least bad page
  pub least-bad : (page : ℕ) → Visits told old mid None (Some page) (is_touched old records) → IsLeastBad told old records page
  least-bad page h = by_case (h.from page refl)
    where
      not-kept : (q : ℕ) → known told old q ≡ NotSound → (IsKept mid q ⊎ IsAtMost (Some page) q) → page ≤ q
      not-kept q bad (inl kept) = absurd (value-bad kept.0 (sym (ap (known_by told q) kept.1) ∙ says-bad (known told old q) (known told mid q) (reads.known q) bad))
      not-kept q bad (inr low) = low

      by_case : ((None ≡ Some page) ⊎ ((is_own old page ≡ true) × (is_touched old records page ≡ true) × Says (known told old page) NotSound)) → IsLeastBad told old records page
      by_case (inl e) = cc
      by_case (inr f) = record {
        touched = f.1;
        bad = f.2;
        least = λ q on bad. not-kept q bad (h.found q (and_parts (is_own old q) (list_any (touches old.pages q) records) on).0 on);
      }

  -- why the records weren't redone
  pub redo-fault : (applied : ℕ) (e : StripeFault) → Visits told old mid None None (is_touched old records) → IsUnlawful mid applied records e → IsApplyFault told old applied records e
  redo-fault applied (Unlawful page) h (on, never) = record {
    touched = sym (touched-mid page) ∙ on;
    never = λ log next ahead.
        never told log (subst (λ (n : ℕ). AreNext n applied log records) (sym reads.same.pages) next) (all-kept h)
        (subst (λ (n : ℕ). IsAhead n log applied page (known told mid page)) (sym reads.same.pages) (ahead-mid old.pages applied log page ahead));
  }
  redo-fault applied NoMemory h k = tt
  redo-fault applied (Bad page) h k = absurd k
  redo-fault applied (Pending page) h k = k
  redo-fault applied (TooOld s o) h k = k
  redo-fault applied Home h k = tt

  -- the pages after the records
  pub values-after : (new : Table) (applied : ℕ) → Visits told old mid None None (is_touched old records)
      → ((told : Told) (log : Log) (page : ℕ) → AreNext mid.pages applied log records → AreKept mid records → is_own mid page ≡ true → IsAhead mid.pages log applied page (known told mid page) → IsAhead mid.pages log (applied + length records) page (known told new page))
      → (log : Log) (page : ℕ) → AreNext old.pages applied log records → is_own old page ≡ true → IsAhead old.pages log applied page (known told old page) → IsAhead old.pages log (applied + length records) page (known told new page)
  values-after new applied h values log page next own ahead =
      subst (λ (n : ℕ). IsAhead n log (applied + length records) page (known told new page)) reads.same.pages
      (values told log page (subst (λ (n : ℕ). AreNext n applied log records) (sym reads.same.pages) next) (all-kept h) (own-same old mid reads.same page ∙ own)
      (subst (λ (n : ℕ). IsAhead n log applied page (known told mid page)) (sym reads.same.pages) (ahead-mid old.pages applied log page ahead)))

-- why a page wasn't read in
pub read-fault : (told : Told) (old : Table) (applied : ℕ) (records : List Record) (e : StripeFault) → IsVisitFault told old (is_touched old records) e → IsApplyFault told old applied records e
read-fault told old applied records (Unlawful page) (own, on, says) = record {
  touched = on;
  never = λ log next ahead. foreign (known told old page) _ says ahead.value;
}
  where
    foreign : (k : Known) (v : PageValue) → Says k NotItsImage → k ≡ Value v → ⊥
    foreign k v s e = (let f : NotItsImage ≡ Value v = subst (λ (x : Known). Says x NotItsImage) e s in cc)
read-fault told old applied records Home h = tt
read-fault told old applied records NoMemory h = tt
read-fault told old applied records (Bad page) h = absurd h
read-fault told old applied records (Pending page) h = h
read-fault told old applied records (TooOld s o) h = h
