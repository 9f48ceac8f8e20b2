-- What reading an image in the middle of an event leaves.
use Rattle.std.proofs.Common.{◌≡◌, ℕ, ◌+◌, ◌-◌, ◌≤◌, [], Bool, IsTrue, refl, sym, ap, ◌∙◌, subst, arith}
use Rattle.ag_outside.specs.declared.order.Arm.{Arm}
use Rattle.ag_outside.specs.declared.order.Arm.TheVariants.{Free as FreeArm, Stop as StopArm, Fail as FailArm}
use Rattle.ag_outside.specs.Counts.{HasRisen}
use Rattle.ag_outside.specs.Calls.{FailsOnTheWay, IsReadOnly}
use Rattle.ag_outside.specs.Disks.{Content, Image, SameImages, Only}
use Rattle.ag_outside.specs.Scripts.{ScriptedView}
use Rattle.ag_outside.specs.Shown.{reads_of, holds_of, did_of}
use Rattle.ag_logstore.specs.Stored.{log_end}
use Rattle.ag_logstore.specs.Stores.{IsCurrent}
use Rattle.ag_kept.specs.Kept.{master_on}
use Rattle.ag_kept.proofs.Calls.{ordered, read_settles, free_fails}
use Rattle.ag_suspect.specs.Rows.{suspects_on}
use Rattle.ag_pieces.specs.Pieces.{order_left, IsAhead}
use Rattle.ag_writes.specs.declared.order.Order.{Order}
use Rattle.ag_writes.specs.declared.order.Order.TheVariants.{Free, StopAt, FailAt}
use Rattle.ag_keeping.specs.Keeping.{IsKeeping, store_on}
use Rattle.ag_durable.specs.declared.progress.Came.TheVariants.{Underway}
use Rattle.ag_durable.specs.Views.{DurableView}
use Rattle.ag_durable.specs.Opening.{rest_of, HasPlace}
use Rattle.ag_durable.specs.Standing.{GoesOn, HoldsAt, Stands}
use Rattle.ag_durable.proofs.Reading.{only_again}

module _ {D : Type 0} (size : D → ℕ) (keeps : D → Bool) (reads : D → Image) (may_hold : D → ℕ → Content → Type 0) (faults : D → ℕ) (old armed new : ScriptedView D) (is : armed ≡ ordered old FreeArm) (none : old.unsynced ≡ []) where
  pub still_synced : IsReadOnly (did_of keeps reads may_hold faults) armed new → new.unsynced ≡ []
  still_synced r = (read_settles keeps reads may_hold faults old armed new FreeArm is none r).0.unsynced

  pub free_risen : FailsOnTheWay (did_of keeps reads may_hold faults) armed [] new → HasRisen (faults old.disk) (faults new.disk)
  free_risen f = free_fails keeps reads may_hold faults old armed new is none f

-- what is ordered anew is what was still ordered
pub rest_left : (o : Order) → order_left (rest_of o) 0 0 ≡ o
rest_left Free = refl
rest_left (StopAt w mask) = ap (λ (n : ℕ). StopAt n mask) (let e : w + 1 - (0 + 1) ≡ w = omega arith in e)
rest_left (FailAt c) = ap FailAt (let e : c + 1 - (0 + 1) ≡ c = omega arith in e)

pub rest_ahead : (o : Order) → HasPlace o → IsAhead (rest_of o) 0 0
rest_ahead Free has = tt
rest_ahead (StopAt w mask) has = (omega arith, has)
rest_ahead (FailAt c) has = (omega arith, has)

-- what is still ordered has a place
place_left : (a : Arm) (written called : ℕ) → IsAhead a written called → HasPlace (order_left a written called)
place_left FreeArm written called ahead = tt
place_left (StopArm write mask) written called ahead = (let low = ahead.0 in let high = ahead.1 in omega arith)
place_left (FailArm call) written called ahead = (let low = ahead.0 in let high = ahead.1 in omega arith)

module _ {D : Type 0} (size : D → ℕ) (keeps : D → Bool) (reads : D → Image) (may_hold : D → ℕ → Content → Type 0) (old : DurableView D) (under : old.progress.came ≡ Underway) (stands : Stands size keeps reads may_hold old) where
  pub fetches_from : GoesOn keeps reads may_hold old
  fetches_from = subst (HoldsAt keeps reads may_hold old) under stands.holds

  pub fetch_place : HasPlace old.progress.order
  fetch_place = subst HasPlace (sym fetches_from.ordered) (place_left old.disk.order old.disk.writes old.disk.calls fetches_from.ahead)

  -- the disk was read, and has its order again
  module _ (read armed : ScriptedView D) (is : armed ≡ ordered read (rest_of old.progress.order)) (same : reads_of reads read ≡ reads_of reads old.disk)
      (crash : SameImages (holds_of keeps may_hold old.disk) (holds_of keeps may_hold read)) (same_size : size read.disk ≡ size old.disk.disk) (same_keeps : keeps read.disk ≡ keeps old.disk.disk) (synced : read.unsynced ≡ []) where
    abbrev new : DurableView D
    new = record old { disk = armed }

    abbrev goes : GoesOn keeps reads may_hold old
    goes = fetches_from

    pub fetch_content : reads_of reads armed ≡ reads_of reads old.disk
    fetch_content = ap (reads_of reads) is ∙ same

    fetch_goes : GoesOn keeps reads may_hold new
    fetch_goes = record {
      rest = record {
        modelled = subst IsTrue (sym (ap (λ (v : ScriptedView D). keeps v.disk) is ∙ same_keeps)) goes.rest.modelled;
        unsynced = ap (λ (v : ScriptedView D). v.unsynced) is ∙ synced;
        keeping = subst (IsKeeping old.master.pages old.master.replica) (sym fetch_content) goes.rest.keeping;
      };
      synced = subst (λ (v : ScriptedView D). Only (reads_of reads v) (holds_of keeps may_hold v)) (sym is)
          (only_again (reads_of reads old.disk) (reads_of reads read) (holds_of keeps may_hold old.disk) (holds_of keeps may_hold read) same crash goes.synced);
      master = ap master_on fetch_content ∙ goes.master;
      suspects = ap suspects_on fetch_content ∙ goes.suspects;
      log = ap store_on fetch_content ∙ goes.log;
      current = λ yes. subst (λ (i : Image). IsCurrent i old.log) (sym fetch_content) (goes.current yes);
      ahead = subst (λ (v : ScriptedView D). IsAhead v.order v.writes v.calls) (sym is) (rest_ahead old.progress.order fetch_place);
      ordered = sym (ap (λ (v : ScriptedView D). order_left v.order v.writes v.calls) is ∙ rest_left old.progress.order);
    }

    pub fetch_stands : Stands size keeps reads may_hold new
    fetch_stands = record {
      room = subst (λ (n : ℕ). log_end ≤ n) (sym (ap (λ (v : ScriptedView D). size v.disk) is ∙ same_size)) stands.room;
      holds = subst (HoldsAt keeps reads may_hold new) (sym under) fetch_goes;
    }
