-- What reading a replica's disk outside of any order leaves.
use Rattle.std.proofs.Common.{◌≡◌, ℕ, ◌≤◌, [], Bool, false, IsTrue, sym, ap, ◌∙◌, subst}
use Rattle.ag_outside.specs.declared.order.Arm.TheVariants.{Free}
use Rattle.ag_outside.specs.Counts.{HasRisen}
use Rattle.ag_outside.specs.Calls.{TakesAll, FailsOnTheWay, IsReadOnly}
use Rattle.ag_outside.specs.Disks.{Content, Image, SameImages, Only}
use Rattle.ag_outside.specs.Scripts.{ScriptedView}
use Rattle.ag_outside.specs.Shown.{reads_of, did_of}
use Rattle.ag_logstore.specs.Stored.{log_end}
use Rattle.ag_logstore.specs.LogOf.{IsLogOf}
use Rattle.ag_logstore.specs.Stores.{StoreView}
use Rattle.ag_logstore.proofs.Chains.{one_log}
use Rattle.ag_model.specs.declared.record.Log.{Log}
use Rattle.ag_kept.specs.Kept.{master_on}
use Rattle.ag_kept.specs.Starting.{own_log}
use Rattle.ag_kept.proofs.Calls.{ordered, read_settles, free_fails}
use Rattle.ag_master.specs.declared.master.Master.{Master}
use Rattle.ag_pieces.specs.Pieces.{IsAhead}
use Rattle.ag_pieces.proofs.Passed.{batch_passed}
use Rattle.ag_keeping.specs.Keeping.{IsKeeping, store_on}
use Rattle.ag_durable.specs.Opening.{CanLoad}

module _ {D : Type 0} (size : D → ℕ) (keeps : D → Bool) (reads : D → Image) (may_hold : D → ℕ → Content → Type 0) (faults : D → ℕ) (old armed new : ScriptedView D) (is : armed ≡ ordered old Free) (can : CanLoad size keeps reads old) where
  -- a disk that was read alone, or synced too, can still be loaded
  pub can_again : new.unsynced ≡ [] → keeps new.disk ≡ keeps old.disk → size new.disk ≡ size old.disk → reads_of reads new ≡ reads_of reads old → CanLoad size keeps reads new
  can_again none same_keeps same_size same = record {
    room = subst (λ (n : ℕ). log_end ≤ n) (sym same_size) can.room;
    modelled = subst IsTrue (sym same_keeps) can.modelled;
    unsynced = none;
    keeping = subst (λ (i : Image). IsKeeping (master_on i).pages (master_on i).replica i) (sym same) can.keeping;
  }

  armed_reads : reads_of reads armed ≡ reads_of reads old
  armed_reads = ap (reads_of reads) is

  armed_size : size armed.disk ≡ size old.disk
  armed_size = ap (λ (v : ScriptedView D). size v.disk) is

  pub read_can : IsReadOnly (did_of keeps reads may_hold faults) armed new → size new.disk ≡ size armed.disk → reads_of reads new ≡ reads_of reads armed → CanLoad size keeps reads new
  read_can r same_size same =
      let s = read_settles keeps reads may_hold faults old armed new Free is can.unsynced r in
      can_again s.0.unsynced s.0.keeps_same (same_size ∙ armed_size) (same ∙ armed_reads)

  pub read_later : IsReadOnly (did_of keeps reads may_hold faults) armed new → faults old.disk ≤ faults new.disk
  read_later r = (read_settles keeps reads may_hold faults old armed new Free is can.unsynced r).1

  pub read_risen : FailsOnTheWay (did_of keeps reads may_hold faults) armed [] new → HasRisen (faults old.disk) (faults new.disk)
  read_risen f = free_fails keeps reads may_hold faults old armed new is can.unsynced f

  module _ (took : TakesAll (did_of keeps reads may_hold faults) armed [] new) where
    ahead : IsAhead armed.order armed.writes armed.calls
    ahead = subst (λ (v : ScriptedView D). IsAhead v.order v.writes v.calls) (sym is) tt

    pub synced_can : size new.disk ≡ size armed.disk → reads_of reads new ≡ reads_of reads armed → CanLoad size keeps reads new
    synced_can same_size same =
        let passes = batch_passed keeps reads may_hold faults armed new [] ahead took in
        can_again passes.settled.unsynced (passes.settled.keeps_same ∙ ap (λ (v : ScriptedView D). keeps v.disk) is) (same_size ∙ armed_size) (same ∙ armed_reads)

    pub synced_later : faults old.disk ≤ faults new.disk
    synced_later = subst (λ (n : ℕ). n ≤ faults new.disk) (ap (λ (v : ScriptedView D). faults v.disk) is) (batch_passed keeps reads may_hold faults armed new [] ahead took).later

-- the log that was read is the image's
pub log_read : (pages replica : ℕ) (image : Image) (h : IsKeeping pages replica image) (m : Master) (s : StoreView) → m ≡ master_on image → IsLogOf image m.cut m.incarnation s.log → (s.cut ≡ m.cut) × (s.incarnation ≡ m.incarnation) × (s.is_closed ≡ false)
    → s ≡ store_on image
log_read pages replica image h m s is log fields =
    let own : IsLogOf image (master_on image).cut (master_on image).incarnation s.log = subst (λ (x : Master). IsLogOf image x.cut x.incarnation s.log) is log in
    let one : s.log ≡ own_log image = one_log image (master_on image).cut (master_on image).incarnation s.log (own_log image) own h.log.is in
    let made : Log → ℕ → ℕ → Bool → StoreView = λ l c n b. record { log = l; cut = c; incarnation = n; is_closed = b } in
    ap (λ (l : Log). made l s.cut s.incarnation s.is_closed) one
    ∙ ap (λ (c : ℕ). made (own_log image) c s.incarnation s.is_closed) (fields.0 ∙ ap (λ (x : Master). x.cut) is)
    ∙ ap (λ (n : ℕ). made (own_log image) (master_on image).cut n s.is_closed) (fields.1 ∙ ap (λ (x : Master). x.incarnation) is)
    ∙ ap (λ (b : Bool). made (own_log image) (master_on image).cut (master_on image).incarnation b) fields.2

-- images that stay, where a crash left one
pub only_again : (a b : Image) (hold next : ℕ → Content → Type 0) → b ≡ a → SameImages hold next → Only a hold → Only b next
only_again a b hold next is same only at content may = only at content ((same at content).0 may) ∙ ap (λ (im : Image). im at) (sym is)
