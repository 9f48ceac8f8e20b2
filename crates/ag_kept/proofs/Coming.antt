-- How a block ends that is appended.
use Rattle.std.proofs.Common.{◌≡◌, ◌⊎◌, ℕ, ◌+◌, ◌/◌, ◌^◌, ◌<◌, ◌≤◌, List, [], ◌∷◌, length, Bool, IsTrue, eqb, Result, Ok, Err, refl, sym, ap, ◌∙◌, subst, arith, inl, inr}
use Rattle.std.specs.Prelude.{IfOk, OnOk, IsErrOf}
use Rattle.std.proofs.lemmas.Bool.{cases_lt}
use Rattle.ag_model.specs.declared.event.Suffix.{Suffix}
use Rattle.ag_model.specs.declared.record.Record.{Record}
use Rattle.ag_model.specs.Blocks.{with_block}
use Rattle.ag_model.specs.declared.message.Block.{Block as BlockOf}
use Rattle.ag_model.specs.Sizes.{records_size, block_sectors, free_sectors}
use Rattle.ag_record.specs.Spelling.{ArePayload}
use Rattle.ag_model.specs.Cells.{keeps_all}
use Rattle.ag_outside.specs.declared.order.Arm.{Arm}
use Rattle.ag_outside.specs.declared.order.Arm.TheVariants.{Stop as StopOrder, Fail as FailOrder}
use Rattle.ag_outside.specs.declared.order.Why.{Why}
use Rattle.ag_outside.specs.declared.order.Why.TheVariants.{Nothing, Stopped, Device, Inner}
use Rattle.ag_outside.specs.Counts.{HasRisen}
use Rattle.ag_outside.specs.Disks.{Content, Image, writes, put_all}
use Rattle.ag_outside.specs.Calls.{Piece, TakesAll, FailsOnTheWay}
use Rattle.ag_outside.specs.Scripts.{ScriptedView, kept}
use Rattle.ag_outside.specs.Shown.{reads_of, was_or_wrote, did_of}
use Rattle.ag_logstore.specs.Stored.{Stored, sectors_of, log_start, log_end, IsLogSector}
use Rattle.ag_logstore.specs.LogOf.{IsLogOf}
use Rattle.ag_logstore.specs.Stores.{StoreView, sector_after, stored_by, IsCurrent, IsReady, Follows}
use Rattle.ag_logstore.proofs.Standing.{count_of_block, few_sectors, wrote_within}
use Rattle.ag_logstore.proofs.Storing.{follows}
use Rattle.ag_logstore.proofs.Written.{is_writable}
use Rattle.ag_kept.specs.declared.fault.KeptFault.{KeptFault}
use Rattle.ag_kept.specs.declared.fault.KeptFault.TheVariants.{DiskFault}
use Rattle.ag_kept.specs.declared.reach.Reach.{Reach}
use Rattle.ag_kept.specs.declared.reach.Reach.TheVariants.{End, Stop, Fault}
use Rattle.ag_kept.specs.Reaching.{how_far, order_of}
use Rattle.ag_kept.specs.Ending.{next, IsSettled, EndsBy, WentThrough, reach_of}
use Rattle.ag_kept.specs.Stopping.{stopped_image, keeps_block}
use Rattle.ag_kept.specs.Standing.{HasLog, LeavesLog, reached_log}
use Rattle.ag_outside.proofs.Quiet.{leads_later}
use Rattle.ag_kept.proofs.Calls.{ordered, write_ends, went_through}
use Rattle.ag_kept.proofs.Stops.{kept_wrote, stopped_log, stopped_greatest}
use Rattle.ag_kept.proofs.Orders.{far_stop, far_fail, far_end, count_tells}

-- writes in the log leave each other sector
pub others_stay : (image : Image) (at x : ℕ) (ss : List (List ℕ)) → log_start ≤ at → at + length ss ≤ log_end → (IsLogSector x → ⊥) → put_all image (writes at ss) x ≡ image x
others_stay image at x ss low high other = elim (was_or_wrote (writes at ss) image x) [
  | inl was ↦ was
  | inr wrote ↦ let in_it = wrote_within at x ss _ wrote in absurd (other (omega (arith, low, in_it.0), omega (arith, high, in_it.1)))
]

-- and so where a mask keeps some of them
pub others_stay_masked : (image : Image) (mask at x : ℕ) (ss : List (List ℕ)) → log_start ≤ at → at + length ss ≤ log_end → (IsLogSector x → ⊥) → put_all image (kept mask 0 (writes at ss)) x ≡ image x
others_stay_masked image mask at x ss low high other = elim (was_or_wrote (kept mask 0 (writes at ss)) image x) [
  | inl was ↦ was
  | inr wrote ↦ let in_it = wrote_within at x ss _ (kept_wrote mask 0 (writes at ss) x _ wrote) in absurd (other (omega (arith, low, in_it.0), omega (arith, high, in_it.1)))
]

-- how a block came so far
pub record Came {D : Type 0} (keeps : D → Bool) (reads : D → Image) (old new : ScriptedView D) (s : StoreView) (records : List Record) (suffix : Suffix) (r : Reach) : Type 0 where
  pub far : r ≡ how_far suffix (block_sectors records) 2
  pub log : LeavesLog (reads_of reads old) s.cut s.incarnation (reached_log s records r) (reads_of reads new)
  pub settled : IsSettled keeps old new

-- a call that may fail at the first two calls
one_or_two : (call : ℕ) → 1 ≤ call → call ≤ 2 → (call ≡ 1) ⊎ (call ≡ 2)
one_or_two call low high = elim (cases_lt call 2) [
  | inl less ↦ inl (omega (arith, low, less))
  | inr more ↦ inr (omega (arith, high, more))
]

module _ {D : Type 0} (keeps : D → Bool) (reads : D → Image) (may_hold : D → ℕ → Content → Type 0) (faults : D → ℕ) (old new : ScriptedView D) (s : StoreView) (b : Stored) (suffix : Suffix)
    (order : old.order ≡ order_of suffix) (none : old.writes ≡ 0) (no_calls : old.calls ≡ 0) (k : IsTrue (keeps old.disk)) (cur : IsCurrent (reads_of reads old) s) (f : Follows s b) where
  abbrev the_piece : Piece
  the_piece = record { first = sector_after s.log; sectors = sectors_of b }

  -- the block's sectors are the log's
  within : sector_after s.log + length (sectors_of b) ≤ log_end
  within = omega (arith, f.room, count_of_block b (is_writable s b f))

  first_write : next old.writes ≡ 1
  first_write = ap next none

  first_call : next old.calls ≡ 1
  first_call = ap next no_calls

  second_call : next (next old.calls) ≡ 2
  second_call = ap (λ n. next (next n)) no_calls

  -- the log as it was
  as_before : HasLog (reads_of reads old) s.cut s.incarnation s.log
  as_before = record { is = cur.log; greatest = cur.greatest }

  was_fault : (call : ℕ) → call ≤ 2 → old.order ≡ FailOrder call → Fault ≡ how_far suffix (block_sectors b.records) 2
  was_fault call le is = sym (far_fail suffix call (block_sectors b.records) 2 (sym order ∙ is) le)

  pub came : (w : Why) → EndsBy keeps reads may_hold faults old the_piece new w → IfOk (reach_of w (block_sectors b.records)) (Came keeps reads old new s b.records suffix)
  came Nothing e = tt
  came (Stopped write count) e =
      let mask = e.0 in
      let n = block_sectors b.records in
      let stop : order_of suffix ≡ StopOrder 1 mask = sym order ∙ e.1 ∙ ap (λ w. StopOrder w mask) (e.2 ∙ first_write) in
      let all : eqb count n ≡ keeps_all mask 0 n = count_tells mask (sector_after s.log) n count (sectors_of b) (count_of_block b (is_writable s b f)) (few_sectors b (is_writable s b f)) e.3 in
      let now : reads_of reads new ≡ stopped_image (reads_of reads old) s b mask = e.5 k in
      let has : HasLog (stopped_image (reads_of reads old) s b mask) s.cut s.incarnation (reached_log s b.records (Stop (keeps_block mask b))) = record { is = stopped_log (reads_of reads old) s b mask cur f; greatest = stopped_greatest (reads_of reads old) s b mask cur f } in
      record {
        far = ap (λ (w : Bool). Stop w) all ∙ sym (far_stop suffix mask n 2 stop);
        log = record {
          has = subst (λ (w : Bool). HasLog (reads_of reads new) s.cut s.incarnation (reached_log s b.records (Stop w))) (sym all) (subst (λ image. HasLog image s.cut s.incarnation (reached_log s b.records (Stop (keeps_block mask b)))) (sym now) has);
          others = λ at other. ap (λ (image : Image). image at) now ∙ others_stay_masked (reads_of reads old) mask (sector_after s.log) at (sectors_of b) (omega arith) within other;
        };
        settled = e.4;
      }
  came Device e = record {
    far = elim e.0 [ inl one ↦ was_fault 1 (omega arith) (one ∙ ap FailOrder first_call) | inr two ↦ was_fault 2 (omega arith) (two ∙ ap FailOrder second_call) ];
    log = record { has = subst (λ image. HasLog image s.cut s.incarnation s.log) (sym (e.2 k)) as_before; others = λ at other. ap (λ (image : Image). image at) (e.2 k) };
    settled = e.1;
  }
  came Inner e = tt

  -- an error comes from the disk below
  pub below_failed : (w : Why) → EndsBy keeps reads may_hold faults old the_piece new w → IsErrOf (reach_of w (block_sectors b.records)) DiskFault → HasRisen (faults old.disk) (faults new.disk)
  below_failed Nothing e is = absurd e
  below_failed (Stopped write count) e is = absurd (cc is)
  below_failed Device e is = absurd (cc is)
  below_failed Inner e is = e

  -- no order was reached
  pub came_through : WentThrough keeps faults old new → End ≡ how_far suffix (block_sectors b.records) 2
  came_through w = sym (far_end suffix (block_sectors b.records) 2
      (λ mask is. w.no_stop mask (order ∙ is ∙ ap (λ n. StopOrder n mask) (sym first_write)))
      (λ call low high is. elim (one_or_two call low high) [
        | inl one ↦ w.no_fail (order ∙ is ∙ ap FailOrder (one ∙ sym first_call))
        | inr two ↦ w.no_fail_at_sync (order ∙ is ∙ ap FailOrder (two ∙ sym second_call))
      ])
      (omega arith))

-- what a write came to, as it is answered
pub record Ended {D : Type 0} (keeps : D → Bool) (reads : D → Image) (may_hold : D → ℕ → Content → Type 0) (faults : D → ℕ) (old new : ScriptedView D) (s : StoreView) (records : List Record) (suffix : Suffix) (result : Result Reach KeptFault) : Type 0 where
  pub so_far : IfOk result (Came keeps reads old new s records suffix)
  pub below : IsErrOf result DiskFault → HasRisen (faults old.disk) (faults new.disk)

pub if_ok : {X E : Type 0} {P Q : X → Type 0} (r : Result X E) → IfOk r P → ((x : X) → P x → Q x) → IfOk r Q
if_ok (Ok x) h f = f x h
if_ok (Err e) h f = tt

pub on_ok : {X E : Type 0} {P : X → Type 0} {Q : Type 0} (r : Result X E) → IfOk r P → ((x : X) → P x → Q) → OnOk r Q
on_ok (Ok x) h f = f x h
on_ok (Err e) h f = tt

pub always_ok : {X E : Type 0} {Q : Type 0} (r : Result X E) → Q → OnOk r Q
always_ok (Ok x) q = q
always_ok (Err e) q = tt

module _ {D : Type 0} (keeps : D → Bool) (reads : D → Image) (may_hold : D → ℕ → Content → Type 0) (faults : D → ℕ) (old armed new : ScriptedView D) (s : StoreView) (b : Stored) (suffix : Suffix) (order : Arm)
    (is : armed ≡ ordered old order) (order_is : order ≡ order_of suffix) (unsynced : old.unsynced ≡ []) (k : IsTrue (keeps old.disk)) (cur : IsCurrent (reads_of reads old) s) (f : Follows s b) where
  abbrev its_piece : Piece
  its_piece = record { first = sector_after s.log; sectors = sectors_of b }

  -- the answer where the write failed
  pub append_failed : (n : ℕ) (w : Why) (result : Result Reach KeptFault) → FailsOnTheWay (did_of keeps reads may_hold faults) armed (its_piece ∷ []) new → w ≡ new.why → n ≡ block_sectors b.records → result ≡ reach_of w n → Ended keeps reads may_hold faults old new s b.records suffix result
  append_failed n w result fails why count told =
      let from : FailsOnTheWay (did_of keeps reads may_hold faults) (ordered old order) (its_piece ∷ []) new = subst (λ v. FailsOnTheWay (did_of keeps reads may_hold faults) v (its_piece ∷ []) new) is fails in
      let ends = write_ends keeps reads may_hold faults (ordered old order) new its_piece unsynced from in
      let same : result ≡ reach_of new.why (block_sectors b.records) = told ∙ ap (λ x. reach_of x n) why ∙ ap (reach_of new.why) count in
      let far = came keeps reads may_hold faults (ordered old order) new s b suffix order_is refl refl k cur f new.why ends in
      record {
        so_far = subst (λ r. IfOk r (Came keeps reads old new s b.records suffix)) (sym same) (if_ok (reach_of new.why (block_sectors b.records)) far
            (λ r x. record { far = x.far; log = x.log; settled = record { unsynced = x.settled.unsynced; keeps_same = x.settled.keeps_same } }));
        below = λ e. below_failed keeps reads may_hold faults (ordered old order) new s b suffix order_is refl refl k cur f new.why ends (subst (λ r. IsErrOf r DiskFault) same e);
      }

  -- and where it went well
  pub append_went : TakesAll (did_of keeps reads may_hold faults) armed (its_piece ∷ []) new → (End ≡ how_far suffix (block_sectors b.records) 2) × IsSettled keeps old new × (faults old.disk ≤ faults new.disk)
  append_went takes =
      let w = went_through keeps reads may_hold faults (ordered old order) new its_piece (subst (λ v. TakesAll (did_of keeps reads may_hold faults) v (its_piece ∷ []) new) is takes) in
      (came_through keeps reads may_hold faults (ordered old order) new s b suffix order_is refl refl k cur f w, record { unsynced = w.settled.unsynced; keeps_same = w.settled.keeps_same }, w.later)

  pub append_later : FailsOnTheWay (did_of keeps reads may_hold faults) armed (its_piece ∷ []) new → faults old.disk ≤ faults new.disk
  append_later fails = subst (λ (v : ScriptedView D). faults v.disk ≤ faults new.disk) is (leads_later keeps reads may_hold faults armed new fails.calls fails.leads)

  -- the log and the master then
  pub append_leaves : (hold : ℕ → Content → Type 0) (t : StoreView) → (IsTrue (keeps armed.disk) → reads_of reads new ≡ put_all (reads_of reads armed) (writes its_piece.first its_piece.sectors))
      → (IsTrue (keeps armed.disk) → IsLogOf (reads_of reads new) s.cut s.incarnation (with_block s.log b.records)) → IsReady (keeps new.disk) (reads_of reads new) hold t → t.incarnation ≡ s.incarnation → keeps new.disk ≡ keeps old.disk
      → LeavesLog (reads_of reads old) s.cut s.incarnation (with_block s.log b.records) (reads_of reads new)
  append_leaves hold t written log ready same keeps_same =
      let held : IsTrue (keeps armed.disk) = subst (λ (v : ScriptedView D). IsTrue (keeps v.disk)) (sym is) k in
      let now = ready.current (subst IsTrue (sym keeps_same) k) in
      record {
        has = record { is = log held; greatest = λ at in_log. omega (arith, now.greatest at in_log, same) };
        others = λ at other. ap (λ (image : Image). image at) (written held) ∙ others_stay (reads_of reads armed) (sector_after s.log) at (sectors_of b) (omega arith) (omega (arith, f.room, count_of_block b (is_writable s b f))) other ∙ ap (λ (v : ScriptedView D). reads_of reads v at) is;
      }

-- a block that goes to a store
pub follows_so : (s : StoreView) (block : BlockOf) → ArePayload block.records → 1 ≤ s.incarnation → s.incarnation < 2 ^ 64 → (block.term < 2 ^ 64) × (block.first < 2 ^ 64) → block.first ≡ length s.log.records + 1 → block_sectors block.records ≤ free_sectors s.log → Follows s (stored_by s.incarnation block)
follows_so s block payload least most fits first room = follows s block payload (record { term = fits.0; incarnation = least; incarnation_fits = most; first = fits.1; some = payload.least; most = payload.most }) first room

-- how many sectors a block takes
pub sectors_is : (records slice : List Record) (bytes sectors : ℕ) → bytes ≡ records_size slice → slice ≡ records → sectors ≡ (bytes + 483) / 484 → sectors ≡ block_sectors records
sectors_is records slice bytes sectors a b n = n ∙ ap (λ x. (x + 483) / 484) (a ∙ ap records_size b)
