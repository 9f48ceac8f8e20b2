-- What the opening writes.
use Rattle.std.proofs.Common.{◌≡◌, ℕ, ◌≤◌, List, [], ◌∷◌, replicate, Bool, true, false, IsTrue, Some, Result, Ok, Err, if◌then◌else◌, refl, sym, ap, ◌∙◌, subst, arith, inl, inr}
use Rattle.std.specs.Prelude.{OnOk}
use Rattle.std.proofs.lemmas.Bool.{ne_eqb}
use Rattle.ag_model.specs.declared.record.Record.{Record}
use Rattle.ag_model.specs.declared.record.Record.TheVariants.{Term}
use Rattle.ag_model.specs.declared.record.Log.{Log}
use Rattle.ag_model.specs.Blocks.{with_block}
use Rattle.ag_outside.specs.declared.order.Arm.TheVariants.{Free}
use Rattle.ag_outside.specs.declared.order.Why.{Why}
use Rattle.ag_outside.specs.declared.order.Why.TheVariants.{Nothing, Stopped, Device, Inner}
use Rattle.ag_outside.specs.Counts.{HasRisen}
use Rattle.ag_outside.specs.Disks.{Content, Image, or_zeros, Only}
use Rattle.ag_outside.specs.MemDisks.{image_of_zeros}
use Rattle.ag_record.specs.Spelling.{ArePayload}
use Rattle.ag_outside.specs.Calls.{Piece, TakesAll, FailsOnTheWay}
use Rattle.ag_outside.specs.Scripts.{ScriptedView}
use Rattle.ag_outside.specs.Shown.{reads_of, holds_of, did_of}
use Rattle.ag_master.specs.declared.master.Master.{Master}
use Rattle.ag_master.specs.Spelling.{spelling, HasSpelling}
use Rattle.ag_master.proofs.Fields.{fields-spelling}
use Rattle.ag_logblock.specs.Fitting.{header_of}
use Rattle.ag_logstore.specs.Stored.{IsLogSector, incarnation_at, no_log}
use Rattle.ag_logstore.specs.LogOf.{IsLogOf}
use Rattle.ag_logstore.specs.Stores.{StoreView, IsCurrent, IsReady}
use Rattle.ag_logstore.proofs.Chains.{one_log, region_alone, current_alone}
use Rattle.ag_logstore.proofs.Fresh.{no_blocks, begins}
use Rattle.ag_kept.specs.declared.reach.Reach.{Reach}
use Rattle.ag_kept.specs.declared.reach.Reach.TheVariants.{End}
use Rattle.ag_kept.specs.Ending.{IsSettled, EndsBy}
use Rattle.ag_kept.specs.Kept.{master_of, master_on, kept_on, opening_kept}
use Rattle.ag_kept.specs.Standing.{HasLog, IsHome, IsMemory, IsAtHome, LeavesLog, reached_log}
use Rattle.ag_kept.specs.Starting.{with_master}
use Rattle.ag_kept.specs.Stopping.{blank_store, opening_stored, stopped_image, log_where, keeps_block}
use Rattle.ag_kept.proofs.Calls.{ordered, write_ends, went_through, was_synced}
use Rattle.ag_kept.proofs.Homes.{home_is, kept_is}
use Rattle.ag_kept.proofs.Stops.{stopped_log}

-- a sector of zeros names no incarnation
zeros_name : (header_of (replicate 512 0)).head.incarnation ≡ 0
zeros_name = refl

names_none : (image : Image) (at : ℕ) → or_zeros (image at) ≡ replicate 512 0 → incarnation_at image at ≡ 0
names_none image at zeros = ap (λ bytes. (header_of bytes).head.incarnation) zeros ∙ zeros_name

-- the store of a disk of zeros
pub store_is : (image : Image) (s : StoreView) → ((at : ℕ) → or_zeros (image at) ≡ replicate 512 0) → IsLogOf image 0 1 s.log → s.cut ≡ 0 → s.incarnation ≡ 1 → s.is_closed ≡ false → s ≡ blank_store
store_is image s zeros log cut incarnation closed =
    let none : s.log ≡ no_log = one_log image 0 1 s.log no_log log (no_blocks image 0 1 (λ at is. names_none image at (zeros at))) in
    λ i. record { log = none i; cut = cut i; incarnation = incarnation i; is_closed = closed i }

pub blank_ready : (keeps : Bool) (image : Image) (hold : ℕ → Content → Type 0) (s : StoreView) → ((at : ℕ) → or_zeros (image at) ≡ replicate 512 0) → s ≡ blank_store → Only image hold → IsReady keeps image hold s
blank_ready keeps image hold s zeros is only =
    let none = λ (at : ℕ) (in_log : IsLogSector at). names_none image at (zeros at) in
    subst (IsReady keeps image hold) (sym is) (record {
      least = omega arith;
      most = omega arith;
      current = λ k. begins image blank_store none (no_blocks image 0 1 none) (omega arith);
      synced = λ k. only;
    })

module _ {D : Type 0} (keeps : D → Bool) (reads : D → Image) (may_hold : D → ℕ → Content → Type 0) (faults : D → ℕ) (old armed new : ScriptedView D) (is : armed ≡ ordered old Free) (unsynced : old.unsynced ≡ []) where
  -- a write that fails without an order
  pub free_write_fails : (piece : Piece) → FailsOnTheWay (did_of keeps reads may_hold faults) armed (piece ∷ []) new → HasRisen (faults old.disk) (faults new.disk)
  free_write_fails piece f = below new.why (write_ends keeps reads may_hold faults (ordered old Free) new piece unsynced (subst (λ v. FailsOnTheWay (did_of keeps reads may_hold faults) v (piece ∷ []) new) is f))
    where
      below : (w : Why) → EndsBy keeps reads may_hold faults (ordered old Free) piece new w → HasRisen (faults old.disk) (faults new.disk)
      below Nothing e = absurd e
      below (Stopped write count) e = absurd (cc e.1)
      below Device e = elim e.0 [ inl one ↦ absurd (cc one) | inr two ↦ absurd (cc two) ]
      below Inner e = e

  pub free_write_settles : (piece : Piece) → TakesAll (did_of keeps reads may_hold faults) armed (piece ∷ []) new → IsSettled keeps old new
  free_write_settles piece t =
      let w = went_through keeps reads may_hold faults (ordered old Free) new piece (subst (λ v. TakesAll (did_of keeps reads may_hold faults) v (piece ∷ []) new) is t) in
      record { unsynced = w.settled.unsynced; keeps_same = w.settled.keeps_same }

  pub free_write_later : (piece : Piece) → TakesAll (did_of keeps reads may_hold faults) armed (piece ∷ []) new → faults old.disk ≤ faults new.disk
  free_write_later piece t = (went_through keeps reads may_hold faults (ordered old Free) new piece (subst (λ v. TakesAll (did_of keeps reads may_hold faults) v (piece ∷ []) new) is t)).later

  pub free_load_settles : TakesAll (did_of keeps reads may_hold faults) armed [] new → IsSettled keeps old new × (faults old.disk ≤ faults new.disk)
  free_load_settles t =
      let w = was_synced keeps reads may_hold faults (ordered old Free) new (subst (λ v. TakesAll (did_of keeps reads may_hold faults) v [] new) is t) in
      (record { unsynced = w.settled.unsynced; keeps_same = w.settled.keeps_same }, w.later)

-- the log of the opening
abbrev pub opening_log : Log
opening_log = with_block no_log (Term 1 ∷ [])

-- once the master is written after the opening block
module _ (after : Image) (m : Master) (pages replica : ℕ) (m_is : m ≡ master_of 1 0 1 pages replica) (fits : HasSpelling m) (has : HasLog after 0 1 opening_log) where
  abbrev now : Image
  now = with_master after m

  other : (at : ℕ) → IsLogSector at → or_zeros (now at) ≡ or_zeros (after at)
  other at is = ap (λ (b : Bool). or_zeros (if b then Some (spelling m) else after at)) (ne_eqb at 0 (λ e. absurd (omega (arith, e, is.0))))

  incarnation_is : m.incarnation ≡ 1
  incarnation_is = ap (λ (x : Master). x.incarnation) m_is

  cut_is : m.cut ≡ 0
  cut_is = ap (λ (x : Master). x.cut) m_is

  has_now : HasLog now m.cut m.incarnation opening_log
  has_now = subst (λ n. HasLog now m.cut n opening_log) (sym incarnation_is) (subst (λ n. HasLog now n 1 opening_log) (sym cut_is) (record {
    is = region_alone after now 0 1 opening_log has.is other;
    greatest = λ at is. omega (arith, has.greatest at is, ap (λ bytes. (header_of bytes).head.incarnation) (other at is));
  }))

  plain : m ≡ master_of m.incarnation m.cut m.redo m.pages m.replica
  plain = subst (λ (x : Master). x ≡ master_of x.incarnation x.cut x.redo x.pages x.replica) (sym m_is) refl

  least : 1 ≤ m.incarnation
  least = omega (arith, incarnation_is)

  pub opened_home : IsHome now
  opened_home = home_is now m opening_log (fields-spelling m fits) plain fits refl least has_now

  pub opened_kept : kept_on now true ≡ opening_kept pages replica
  opened_kept = kept_is now m opening_log (fields-spelling m fits) plain fits refl least has_now true ∙ ap (λ (x : Master). record (opening_kept pages replica) { incarnation = x.incarnation; cut = x.cut; redo = x.redo; pages = x.pages; replica = x.replica }) m_is

  pub opened_current : (s : StoreView) → IsCurrent after s → IsCurrent now s
  opened_current s cur = current_alone after now s cur other

  pub opened_cut : (master_on now).cut ≡ 0
  opened_cut = ap (λ (x : Master). x.cut) (fields-spelling m fits) ∙ cut_is

  pub opened_incarnation : (master_on now).incarnation ≡ 1
  opened_incarnation = ap (λ (x : Master). x.incarnation) (fields-spelling m fits) ∙ incarnation_is

pub both_ok : {X E : Type 0} {P Q R : Type 0} (r : Result X E) → OnOk r P → OnOk r Q → (P → Q → R) → OnOk r R
both_ok (Ok x) p q f = f p q
both_ok (Err e) p q f = tt

-- what the opening block left
pub opened_log : (image after : Image) (s : StoreView) (records : List Record) (r : Reach) → s ≡ blank_store → records ≡ Term 1 ∷ [] → r ≡ End → LeavesLog image s.cut s.incarnation (reached_log s records r) after → HasLog after 0 1 opening_log
opened_log image after s records r s_is records_is r_is leaves =
    (subst (λ (t : StoreView). LeavesLog image t.cut t.incarnation (with_block t.log (Term 1 ∷ [])) after) s_is
    (subst (λ (rs : List Record). LeavesLog image s.cut s.incarnation (with_block s.log rs) after) records_is
    (subst (λ (x : Reach). LeavesLog image s.cut s.incarnation (reached_log s records x) after) r_is leaves))).has

abbrev pub opened_store : StoreView
opened_store = record { log = opening_log; cut = 0; incarnation = 1; is_closed = false }

pub opened_store_is : (s t : StoreView) (records : List Record) → s ≡ blank_store → records ≡ Term 1 ∷ [] → t ≡ record s { log = with_block s.log records } → t ≡ opened_store
opened_store_is s t records s_is records_is is = is ∙ ap (λ (x : StoreView). record x { log = with_block x.log records }) s_is ∙ ap (λ (rs : List Record). record blank_store { log = with_block no_log rs }) records_is

-- the disk and memory at the end
module _ {D : Type 0} (keeps : D → Bool) (reads : D → Image) (mid new : ScriptedView D) (m : Master) (pages replica : ℕ) (m_is : m ≡ master_of 1 0 1 pages replica) (fits : HasSpelling m) (has : HasLog (reads_of reads mid) 0 1 opening_log) (k : IsTrue (keeps mid.disk))
    (is : reads_of reads new ≡ with_master (reads_of reads mid) m) where
  pub opened_at_home : IsSettled keeps mid new → IsAtHome keeps reads new
  opened_at_home settled = record { modelled = subst IsTrue (sym settled.keeps_same) k; unsynced = settled.unsynced; home = subst IsHome (sym is) (opened_home (reads_of reads mid) m pages replica m_is fits has) }

  pub opened_kept_on : kept_on (reads_of reads new) true ≡ opening_kept pages replica
  opened_kept_on = ap (λ (image : Image). kept_on image true) is ∙ opened_kept (reads_of reads mid) m pages replica m_is fits has

  pub opened_memory : (may_hold : D → ℕ → Content → Type 0) (t : StoreView) → t ≡ opened_store → IsCurrent (reads_of reads mid) t → Only (reads_of reads new) (holds_of keeps may_hold new) → IsMemory keeps reads may_hold new t
  opened_memory may_hold t t_is cur only =
      let image = reads_of reads mid in
      let cur_new : IsCurrent (reads_of reads new) t = subst (λ (i : Image). IsCurrent i t) (sym is) (opened_current image m pages replica m_is fits has t cur) in
      let incarnation : t.incarnation ≡ 1 = ap (λ (v : StoreView). v.incarnation) t_is in
      record {
        cut = ap (λ (v : StoreView). v.cut) t_is ∙ sym (ap (λ (i : Image). (master_on i).cut) is ∙ opened_cut image m pages replica m_is fits has);
        incarnation = incarnation ∙ sym (ap (λ (i : Image). (master_on i).incarnation) is ∙ opened_incarnation image m pages replica m_is fits has);
        is_open = ap (λ (v : StoreView). v.is_closed) t_is;
        ready = record { least = omega (arith, incarnation); most = omega (arith, incarnation); current = λ e. cur_new; synced = λ e. only };
      }

-- the opening block on a disk of zeros, of which a stop keeps what the mask says
pub opening_stopped : (mask : ℕ) → IsLogOf (stopped_image image_of_zeros blank_store opening_stored mask) 0 1 (log_where (keeps_block mask opening_stored) blank_store opening_stored)
opening_stopped mask =
    let none = λ (at : ℕ) (in_log : IsLogSector at). names_none image_of_zeros at refl in
    let cur : IsCurrent image_of_zeros blank_store = begins image_of_zeros blank_store none (no_blocks image_of_zeros 0 1 none) (omega arith) in
    let payload : ArePayload opening_stored.records = record { fit = (omega arith, tt); least = omega arith; most = omega arith } in
    stopped_log image_of_zeros blank_store opening_stored mask cur (record {
      fits = payload;
      head = record { term = omega arith; incarnation = omega arith; incarnation_fits = omega arith; first = omega arith; some = payload.least; most = payload.most };
      first = refl;
      incarnation = refl;
      room = omega arith;
    })
