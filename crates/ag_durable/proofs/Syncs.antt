-- What a sync alone makes of a replica's data.
use Rattle.std.proofs.Common.{◌≡◌, ℕ, ◌+◌, ◌≤◌, List, [], ◌∷◌, ◌++◌, Bool, IsTrue, Ok, Err, refl, sym, ap, ◌∙◌, subst, arith, inl}
use Rattle.std.specs.Prelude.{Result, OnOk, OnErr, IsErr, IsErrOf}
use Rattle.std.proofs.lemmas.List.{append-nil}
use Rattle.ag_lists.proofs.Results.{err_is}
use Rattle.ag_outside.specs.declared.disk.DiskError.{DiskError}
use Rattle.ag_outside.specs.declared.disk.DiskError.TheVariants.{Failed as DiskFailed}
use Rattle.ag_outside.specs.declared.order.Why.{Why}
use Rattle.ag_outside.specs.Counts.{HasRisen}
use Rattle.ag_outside.specs.Calls.{Sync_call, TakesAll, FailsOnTheWay}
use Rattle.ag_outside.specs.Disks.{Content, Image, Only}
use Rattle.ag_outside.specs.Scripts.{ScriptedView}
use Rattle.ag_outside.specs.Shown.{reads_of, holds_of, did_of}
use Rattle.ag_logstore.specs.Stored.{log_end}
use Rattle.ag_logstore.specs.Stores.{IsCurrent}
use Rattle.ag_kept.specs.Kept.{master_on}
use Rattle.ag_suspect.specs.Rows.{suspects_on}
use Rattle.ag_writes.specs.declared.order.Order.{Order}
use Rattle.ag_writes.specs.declared.order.Order.TheVariants.{Free, StopAt, FailAt}
use Rattle.ag_keeping.specs.Keeping.{store_on}
use Rattle.ag_keeping.proofs.Meanings.{sync_means}
use Rattle.ag_durable.specs.declared.fault.DurableFault.{DurableFault}
use Rattle.ag_durable.specs.declared.fault.DurableFault.TheVariants.{DiskFault, NoMemory}
use Rattle.ag_durable.specs.declared.progress.Came.TheVariants.{Underway, Unknown}
use Rattle.ag_durable.specs.declared.progress.Progress.{Progress}
use Rattle.ag_durable.specs.Views.{DurableView}
use Rattle.ag_durable.specs.Standing.{GoesOn, HoldsAt, Stands}
use Rattle.ag_durable.specs.Coming.{passed, broken_by, sync_passed, sync_broken, WasOrdered, Performs}
use Rattle.ag_durable.proofs.Touched.{apart_none}
use Rattle.ag_durable.proofs.Batches.{IsWithin}
use Rattle.ag_durable.proofs.Settled.{Remembers, Did, on_taken, on_ok1, settled_performs, settled_stands, settled_risen}

-- a sync is a batch of nothing
sync_passed_is : (p : Progress) → sync_passed p ≡ passed p []
sync_passed_is p = ap (λ (ps : List ℕ). record (sync_passed p) { named = ps }) (sym (append-nil p.named))
    ∙ ap (λ (n : ℕ). record (sync_passed p) { named = p.named ++ []; steps = n }) (let e : p.steps ≡ p.steps + 0 = omega arith in e)
    ∙ ap (λ (n : ℕ). record (sync_passed p) { named = p.named ++ []; steps = p.steps + 0; writes = n }) (let e : p.writes ≡ p.writes + 0 = omega arith in e)

sync_broken_is : (o : Order) (p : Progress) → IsWithin o 0 → sync_broken o p ≡ broken_by o p []
sync_broken_is Free p within = refl
sync_broken_is (FailAt c) p within = refl
sync_broken_is (StopAt w mask) p within = absurd (omega (arith, within w mask refl))

sync_passes : (p q : Progress) (went done : Result (Unit {0}) DurableFault) → OnOk done (OnOk went (q ≡ sync_passed p)) → OnOk done (OnOk went (q ≡ passed p []))
sync_passes p q (Ok u) (Ok v) is = is ∙ sync_passed_is p
sync_passes p q (Err e) (Ok v) is = tt
sync_passes p q went (Err e) is = tt

sync_breaks : (p q : Progress) (went done : Result (Unit {0}) DurableFault) (why : Why) → OnOk done (IsErrOf went DiskFault → WasOrdered why × (q ≡ sync_broken p.order p))
    → OnOk done (IsErrOf went DiskFault → WasOrdered why × (IsWithin p.order 0 → q ≡ broken_by p.order p []))
sync_breaks p q went (Ok v) why is = λ failed. ((is failed).0, λ within. (is failed).1 ∙ sync_broken_is p.order p within)
sync_breaks p q went (Err e) why is = tt

module _ {D : Type 0} (size : D → ℕ) (keeps : D → Bool) (reads : D → Image) (may_hold : D → ℕ → Content → Type 0) (faults : D → ℕ) (old : DurableView D) (disk : ScriptedView D) (q : Progress)
    (under : old.progress.came ≡ Underway) (stands : Stands size keeps reads may_hold old) where
  abbrev new : DurableView D
  new = record { disk = disk; log = old.log; master = old.master; suspects = old.suspects; appends = old.appends; progress = q }

  goes : GoesOn keeps reads may_hold old
  goes = subst (HoldsAt keeps reads may_hold old) under stands.holds

  remembers : (IsTrue (keeps old.disk.disk) → reads_of reads disk ≡ reads_of reads old.disk) → Only (reads_of reads old.disk) (holds_of keeps may_hold disk) → Remembers size keeps reads may_hold faults old new
  remembers same durable =
      let now = same goes.rest.modelled in
      record {
        synced = subst (λ (i : Image). Only i (holds_of keeps may_hold disk)) (sym now) durable;
        master = ap master_on now ∙ goes.master;
        suspects = ap suspects_on now ∙ goes.suspects;
        log = ap store_on now ∙ goes.log;
        current = λ is. subst (λ (i : Image). IsCurrent i old.log) (sym now) (goes.current is);
      }

  all_taken : (r : Result (Unit {0}) DiskError) → did_of keeps reads may_hold faults old.disk (Sync_call r) disk → OnOk r (TakesAll (did_of keeps reads may_hold faults) old.disk [] disk)
  all_taken (Ok u) did = record { calls = Sync_call (Ok u) ∷ []; leads = (disk, did, refl); all = refl }
  all_taken (Err e) did = tt

  broken_off : (r : Result (Unit {0}) DiskError) → did_of keeps reads may_hold faults old.disk (Sync_call r) disk → IsErrOf r DiskFailed → FailsOnTheWay (did_of keeps reads may_hold faults) old.disk [] disk
  broken_off (Ok u) did failed = absurd (cc failed)
  broken_off (Err e) did failed = record { calls = Sync_call (Err e) ∷ []; leads = (disk, did, refl); last = inl (ap (λ (x : DiskError). Sync_call (Err x) ∷ []) (err_is failed)) }

  module _ (r : Result (Unit {0}) DiskError) (went done : Result (Unit {0}) DurableFault) (why : Why) (why_is : why ≡ disk.why) (refused : OnErr r (IsErr went)) (failed : IsErrOf went DiskFault → IsErrOf r DiskFailed)
      (same : OnOk r (IsTrue (keeps old.disk.disk) → reads_of reads disk ≡ reads_of reads old.disk)) (durable : OnOk r (Only (reads_of reads old.disk) (holds_of keeps may_hold disk)))
      (call : did_of keeps reads may_hold faults old.disk (Sync_call r) disk)
      (passes : OnOk done (OnOk went (q ≡ sync_passed old.progress))) (breaks : OnOk done (IsErrOf went DiskFault → WasOrdered why × (q ≡ sync_broken old.progress.order old.progress)))
      (known : OnOk done (went ≡ Err NoMemory → ⊥)) (fault : IsErrOf done DiskFault → (went ≡ Err DiskFault) × (WasOrdered why → ⊥)) (unknown : OnErr done (q.came ≡ Unknown)) where
    both : (t : Result (Unit {0}) DiskError) → OnOk t (IsTrue (keeps old.disk.disk) → reads_of reads disk ≡ reads_of reads old.disk) → OnOk t (Only (reads_of reads old.disk) (holds_of keeps may_hold disk)) → OnOk t (Remembers size keeps reads may_hold faults old new)
    both (Ok u) s d = remembers s d
    both (Err e) s d = tt

    did : Did size keeps reads may_hold faults old new [] [] went done why
    did = record {
      why_is = why_is;
      took = on_taken (TakesAll (did_of keeps reads may_hold faults) old.disk [] disk) r went refused (all_taken r call);
      wrote = on_taken (reads_of reads disk ≡ reads_of reads old.disk) r went refused
          (on_ok1 (IsTrue (keeps old.disk.disk) → reads_of reads disk ≡ reads_of reads old.disk) (reads_of reads disk ≡ reads_of reads old.disk) r same (λ s. s goes.rest.modelled));
      memory = on_taken (Remembers size keeps reads may_hold faults old new) r went refused (both r same durable);
      broke = λ is. broken_off r call (failed is);
      passes = sync_passes old.progress q went done passes;
      breaks = sync_breaks old.progress q went done why breaks;
      known = known;
      fault = fault;
      unknown = unknown;
    }

    pub sync_performs : OnOk done (Performs reads old [] new)
    sync_performs = settled_performs size keeps reads may_hold faults old new [] [] under goes (sync_means old.master.pages old.master.replica (reads_of reads old.disk) goes.rest.keeping) refl refl (apart_none []) went done why did

    pub sync_stands : log_end ≤ size disk.disk → Stands size keeps reads may_hold new
    sync_stands room = settled_stands size keeps reads may_hold faults old new [] [] under goes (sync_means old.master.pages old.master.replica (reads_of reads old.disk) goes.rest.keeping) refl refl (apart_none []) went done why did room

    pub sync_risen : IsErrOf done DiskFault → HasRisen (faults old.disk.disk) (faults disk.disk)
    sync_risen = settled_risen size keeps reads may_hold faults old new [] [] under goes (sync_means old.master.pages old.master.replica (reads_of reads old.disk) goes.rest.keeping) refl refl (apart_none []) went done why did
