-- What a redo of one stripe leaves.
use Rattle.std.proofs.Common.{◌≡◌, ℕ, ◌+◌, ◌≤◌, Bool, true, false, IsTrue, ◌||◌, ◌&&◌, List, length, take, refl, sym, ap, subst, ◌∙◌, inl, inr, arith}
use Rattle.std.specs.Prelude.{set, ◌==◌, Err, IsErrOf}
use Rattle.std.specs.List.{list_any}
use Rattle.std.proofs.lemmas.Bool.{and_parts}
use Rattle.std.proofs.lemmas.List.{length-drop, length-take}
use Rattle.ag_model.specs.declared.record.Log.{Log}
use Rattle.ag_model.specs.declared.record.Record.{Record}
use Rattle.ag_model.specs.declared.value.PageValue.{PageValue}
use Rattle.ag_model.specs.Blocks.{after_to, cut_at}
use Rattle.ag_model.specs.Page.{value}
use Rattle.ag_model.specs.Prefixes.{IsBlockEnd}
use Rattle.ag_model.specs.Proper.{IsProper}
use Rattle.ag_model.specs.Rows.{stripe_of, touches}
use Rattle.ag_model.proofs.Prefixes.{end_low}
use Rattle.ag_outside.specs.declared.order.Arm.TheVariants.{Free}
use Rattle.ag_outside.specs.declared.order.Why.TheVariants.{Inner}
use Rattle.ag_outside.specs.Counts.{HasRisen}
use Rattle.ag_outside.specs.Disks.{Content, Image}
use Rattle.ag_outside.specs.Scripts.{ScriptedView}
use Rattle.ag_outside.specs.Shown.{reads_of, holds_of, did_of}
use Rattle.ag_pagestore.specs.Calling.{same_images, same_itself}
use Rattle.ag_pagestore.specs.Homes.{told_images}
use Rattle.ag_stripe.specs.Ahead.{IsAhead, AreNext}
use Rattle.ag_stripe.specs.Known.{Told, Known, Says}
use Rattle.ag_stripe.specs.Known.Known.{Value, NotSound}
use Rattle.ag_kept.specs.declared.fault.KeptFault.{KeptFault}
use Rattle.ag_outside.proofs.Quiet.{Quiet}
use Rattle.ag_kept.proofs.Calls.{ordered, read_only}
use Rattle.ag_pages.specs.Views.{PagesView, applied_of, is_of, is_dirty, known_of}
use Rattle.ag_pages.specs.Reading.{WasOnlyRead}
use Rattle.ag_pages.specs.Redo.{is_touched, IsLeastBad, IsForeign}
use Rattle.ag_store.specs.Redoing.{ShowsSame, IsRedone}
use Rattle.ag_store.specs.Standing.{told_on}
use Rattle.ag_store.proofs.Values.{next-in-cut, there-in-cut}

-- which fault an answer has
pub fault-in : {T : Type 0} (a b : KeptFault) → IsErrOf {T = T} (Err a) b → a ≡ b
fault-in a b e = cc e

-- what a disk that keeps to its model tells
pub told-is : (keeps : Bool) (image : Image) → IsTrue keeps → told_images keeps image ≡ told_on image
told-is true image k = refl
told-is false image k = absurd (cc k)

-- a scripted disk that was given no order, and then read
module _ {D : Type 0} (size : D → ℕ) (keeps : D → Bool) (reads : D → Image) (may_hold : D → ℕ → Content → Type 0) (faults : D → ℕ) (old armed new : ScriptedView D) (is : armed ≡ ordered old Free)
    (was : WasOnlyRead (λ (s : ScriptedView D). size s.disk) (λ (s : ScriptedView D). keeps s.disk) (reads_of reads) (holds_of keeps may_hold) (did_of keeps reads may_hold faults) armed new) where
  was_read : WasOnlyRead (λ (s : ScriptedView D). size s.disk) (λ (s : ScriptedView D). keeps s.disk) (reads_of reads) (holds_of keeps may_hold) (did_of keeps reads may_hold faults) (ordered old Free) new
  was_read = subst (λ (a : ScriptedView D). WasOnlyRead (λ (s : ScriptedView D). size s.disk) (λ (s : ScriptedView D). keeps s.disk) (reads_of reads) (holds_of keeps may_hold) (did_of keeps reads may_hold faults) a new) is was

  quiet_read : Quiet keeps reads may_hold faults (ordered old Free) new
  quiet_read = read_only keeps reads may_hold faults (ordered old Free) new was_read.calls

  pub shown_same : ShowsSame keeps reads may_hold old new
  shown_same = record {
    content = was_read.content;
    images = was_read.images;
    unsynced = ap (λ (v : ScriptedView D). v.unsynced) quiet_read.same;
    keeping = was_read.keeping;
  }

  pub same_size : size new.disk ≡ size old.disk
  same_size = was_read.sectors

  pub read_later : faults old.disk ≤ faults new.disk
  read_later = quiet_read.later

  pub read_risen : new.why ≡ Inner → HasRisen (faults old.disk) (faults new.disk)
  read_risen why = elim quiet_read.why [
    | inl same ↦ absurd (cc (sym same ∙ why))
    | inr risen ↦ risen.1
  ]

-- no read
pub shows_itself : {D : Type 0} (keeps : D → Bool) (reads : D → Image) (may_hold : D → ℕ → Content → Type 0) (a : ScriptedView D) → ShowsSame keeps reads may_hold a a
shows_itself keeps reads may_hold a = record { content = refl; images = same_itself (holds_of keeps may_hold a); unsynced = refl; keeping = refl }

-- reads, and then reads
pub shows_then : {D : Type 0} (keeps : D → Bool) (reads : D → Image) (may_hold : D → ℕ → Content → Type 0) (a b c : ScriptedView D) → ShowsSame keeps reads may_hold a b → ShowsSame keeps reads may_hold b c → ShowsSame keeps reads may_hold a c
shows_then keeps reads may_hold a b c first second = record {
  content = second.content ∙ first.content;
  images = same_images (holds_of keeps may_hold a) (holds_of keeps may_hold b) (holds_of keeps may_hold c) first.images second.images;
  unsynced = second.unsynced ∙ first.unsynced;
  keeping = second.keeping ∙ first.keeping;
}

-- the pages of a stripe before and after the next records
module _ (image : Image) (log : Log) (stripe end : ℕ) (old : PagesView) (records : List Record) (told : Told) (t : told ≡ told_on image) (proper : IsProper old.count log) (is : IsBlockEnd log end) (from : applied_of old stripe ≤ end) (e : records ≡ after_to (applied_of old stripe) end log.records)
    (ahead : (page : ℕ) → is_of old stripe page ≡ true → IsAhead old.count (cut_at end log) (applied_of old stripe) page (known_of (told_on image) old page)) where
  next : AreNext old.count (applied_of old stripe) (cut_at end log) records
  next = next-in-cut old.count log (applied_of old stripe) end records proper is from e

  pub reaches : applied_of old stripe + length records ≡ end
  reaches =
      let low = end_low old.count log end proper is in
      omega (arith, from, ap length e, length-drop (applied_of old stripe) (take end log.records), length-take end log.records)

  ahead_told : (page : ℕ) → is_of old stripe page ≡ true → IsAhead old.count (cut_at end log) (applied_of old stripe) page (known_of told old page)
  ahead_told page own = subst (λ (t : Told). IsAhead old.count (cut_at end log) (applied_of old stripe) page (known_of t old page)) (sym t) (ahead page own)

  own_of : (page : ℕ) → is_touched old stripe records page ≡ true → is_of old stripe page ≡ true
  own_of page on = (and_parts (is_of old stripe page) (list_any (touches old.count page) records) on).0

  never_says : (k : Known) (v : PageValue) → k ≡ Value v → Says k NotSound → ⊥
  never_says k v is says = let h : NotSound ≡ Value v = subst (λ (k : Known). Says k NotSound) is says in cc h

  pub not_bad : (page : ℕ) → IsLeastBad told old stripe records page → ⊥
  not_bad page bad =
      let a = ahead_told page (own_of page bad.touched) in
      never_says (known_of told old page) (value old.count (cut_at end log).records a.lsn page) a.value bad.bad

  pub not_foreign : (page : ℕ) → IsForeign told old stripe records page → ⊥
  not_foreign page f = f.never (cut_at end log) next (ahead_told page (own_of page f.touched))

  dirty_on : (b c d : Bool) → b ≡ true → (d || (b && c)) ≡ (d || c)
  dirty_on b c d on = ap (λ (b : Bool). d || (b && c)) on

  module _ (new : PagesView) (count : new.count ≡ old.count) (applied : new.applied ≡ set old.applied stripe (applied_of old stripe + length records))
      (values : (log : Log) (page : ℕ) → AreNext old.count (applied_of old stripe) log records → is_of old stripe page ≡ true → IsAhead old.count log (applied_of old stripe) page (known_of told old page) → IsAhead old.count log (applied_of old stripe + length records) page (known_of told new page))
      (dirty : (page : ℕ) → is_dirty new page ≡ (is_dirty old page || is_touched old stripe records page))
      (others : (page : ℕ) → (stripe_of page == stripe) ≡ false → known_of told new page ≡ known_of told old page)
      (others_dirty : (page : ℕ) → (stripe_of page == stripe) ≡ false → is_dirty new page ≡ is_dirty old page) where
    pub is_redone : IsRedone image log stripe end old new
    is_redone = record {
      count = count;
      applied = applied ∙ ap (set old.applied stripe) reaches;
      values = λ page own.
          there-in-cut old.count log end page (known_of (told_on image) new page) proper is
          (subst (λ (t : Told). IsAhead old.count (cut_at end log) end page (known_of t new page)) t
          (subst (λ (n : ℕ). IsAhead old.count (cut_at end log) n page (known_of told new page)) reaches (values (cut_at end log) page next own (ahead_told page own))));
      dirty = λ page own.
          dirty page ∙ dirty_on (is_of old stripe page) (list_any (touches old.count page) records) (is_dirty old page) own
          ∙ ap (λ (rs : List Record). is_dirty old page || list_any (touches old.count page) rs) e;
      others = λ page off. subst (λ (t : Told). known_of t new page ≡ known_of t old page) t (others page off);
      others_dirty = others_dirty;
    }
