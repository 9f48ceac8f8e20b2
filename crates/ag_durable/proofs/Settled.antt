-- What a step leaves of a replica's data.
use Rattle.std.proofs.Common.{◌≡◌, ℕ, ◌≤◌, List, length, Bool, true, IsTrue, Ok, Err, refl, sym, ap, ◌∙◌, subst}
use Rattle.std.specs.Prelude.{Result, OnOk, OnErr, IsErr, IsErrOf}
use Rattle.ag_outside.specs.declared.order.Why.{Why}
use Rattle.ag_outside.specs.Counts.{HasRisen}
use Rattle.ag_outside.specs.Calls.{Piece, TakesAll, FailsOnTheWay}
use Rattle.ag_outside.specs.Disks.{Content, Image, put_all, Only}
use Rattle.ag_outside.specs.Shown.{reads_of, holds_of, did_of}
use Rattle.ag_logstore.specs.Stored.{log_end}
use Rattle.ag_logstore.specs.Stores.{IsCurrent}
use Rattle.ag_kept.specs.Kept.{master_on}
use Rattle.ag_pieces.specs.Pieces.{sectors_in}
use Rattle.ag_suspect.specs.Rows.{suspects_on}
use Rattle.ag_rules.specs.Plan.{Batch}
use Rattle.ag_keeping.specs.Keeping.{kept_on, IsKeeping, store_on}
use Rattle.ag_keeping.specs.Meaning.{Mean}
use Rattle.ag_durable.specs.declared.fault.DurableFault.{DurableFault}
use Rattle.ag_durable.specs.declared.fault.DurableFault.TheVariants.{DiskFault, NoMemory}
use Rattle.ag_durable.specs.declared.progress.Came.{Came}
use Rattle.ag_durable.specs.declared.progress.Came.TheVariants.{Underway, Stopped, Failed, Unknown}
use Rattle.ag_durable.specs.declared.progress.Progress.{Progress}
use Rattle.ag_durable.specs.Views.{DurableView, came_so}
use Rattle.ag_durable.specs.Standing.{IsAtRest, GoesOn, HoldsAt, Stands}
use Rattle.ag_durable.specs.Coming.{passed, broken_by, WasOrdered, Performs}
use Rattle.ag_durable.proofs.Touched.{WasOrWrote, IsApart, whole_wrote, others_stay}
use Rattle.ag_durable.proofs.Batches.{Broke, HoldsOnly, broken_so, risen, IsWithin, within_only, through_settled, through_ahead, through_ordered, through_says, through_reached}

-- a call that is refused where another one is
pub on_taken : {A E F : Type 0} (P : Type 0) (one : Result A E) (two : Result (Unit {0}) F) → OnErr one (IsErr two) → OnOk one P → OnOk two P
on_taken P (Ok a) (Ok u) refused p = p
on_taken P (Ok a) (Err f) refused p = tt
on_taken P (Err e) (Ok u) refused p = absurd (cc refused)
on_taken P (Err e) (Err f) refused p = tt

-- three facts of a call that went well make a fourth
pub on_ok3 : {A E : Type 0} (P Q R S : Type 0) (r : Result A E) → OnOk r P → OnOk r Q → OnOk r R → (P → Q → R → S) → OnOk r S
on_ok3 P Q R S (Ok a) p q t f = f p q t
on_ok3 P Q R S (Err e) p q t f = tt

-- one makes another
pub on_ok1 : {A E : Type 0} (P S : Type 0) (r : Result A E) → OnOk r P → (P → S) → OnOk r S
on_ok1 P S (Ok a) p f = f p
on_ok1 P S (Err e) p f = tt

-- a result that is this fault
ap_err : (r : Result (Unit {0}) DurableFault) → r ≡ Err DiskFault → IsErrOf r DiskFault
ap_err r is = subst (λ (x : Result (Unit {0}) DurableFault). IsErrOf x DiskFault) (sym is) refl

module _ {D : Type 0} (size : D → ℕ) (keeps : D → Bool) (reads : D → Image) (may_hold : D → ℕ → Content → Type 0) (faults : D → ℕ) (old new : DurableView D) where
  -- memory has what the disk keeps
  pub record Remembers : Type 0 where
    pub synced : Only (reads_of reads new.disk) (holds_of keeps may_hold new.disk)
    pub master : master_on (reads_of reads new.disk) ≡ new.master
    pub suspects : suspects_on (reads_of reads new.disk) ≡ new.suspects
    pub log : store_on (reads_of reads new.disk) ≡ new.log
    pub current : new.appends ≡ true → IsCurrent (reads_of reads new.disk) new.log

  -- what the disk and memory did with a batch
  pub record Did (ps : List Piece) (b : Batch) (went done : Result (Unit {0}) DurableFault) (why : Why) : Type 0 where
    pub why_is : why ≡ new.disk.why
    pub took : OnOk went (TakesAll (did_of keeps reads may_hold faults) old.disk ps new.disk)
    pub wrote : OnOk went (reads_of reads new.disk ≡ put_all (reads_of reads old.disk) (sectors_in ps))
    pub memory : OnOk went Remembers
    pub broke : IsErrOf went DiskFault → FailsOnTheWay (did_of keeps reads may_hold faults) old.disk ps new.disk
    pub passes : OnOk done (OnOk went (new.progress ≡ passed old.progress b))
    pub breaks : OnOk done (IsErrOf went DiskFault → WasOrdered why × (IsWithin old.progress.order (length b) → new.progress ≡ broken_by old.progress.order old.progress b))
    pub known : OnOk done (went ≡ Err NoMemory → ⊥)
    pub fault : IsErrOf done DiskFault → (went ≡ Err DiskFault) × (WasOrdered why → ⊥)
    pub unknown : OnErr done (new.progress.came ≡ Unknown)

  module _ (ps : List Piece) (b : Batch) (under : old.progress.came ≡ Underway) (goes : GoesOn keeps reads may_hold old)
      (means : Mean old.master.pages old.master.replica (reads_of reads old.disk) ps b)
      (pages : new.master.pages ≡ old.master.pages) (replica : new.master.replica ≡ old.master.replica) (apart : IsApart ps b) where
    -- the batch went through
    module _ (took : TakesAll (did_of keeps reads may_hold faults) old.disk ps new.disk) (now : reads_of reads new.disk ≡ put_all (reads_of reads old.disk) (sectors_in ps))
        (all_passed : new.progress ≡ passed old.progress b) where
      abbrev p : Progress
      p = old.progress

      pub went_performs : Performs reads old b new
      went_performs = record {
        reached = ap (λ (q : Progress). came_so q.came q (kept_on new.master.pages (reads_of reads new.disk))) all_passed
            ∙ ap (λ (n : ℕ). came_so (passed p b).came (passed p b) (kept_on n (reads_of reads new.disk))) pages
            ∙ through_reached keeps reads may_hold faults old.master.pages old.master.replica old.disk new.disk ps b p under goes.rest.modelled goes.rest.unsynced means goes.ahead goes.ordered goes.rest.keeping took now;
        pages = pages;
        replica = replica;
        others = others_stay (reads_of reads old.disk) (reads_of reads new.disk) ps b (whole_wrote (reads_of reads old.disk) (reads_of reads new.disk) ps now) apart;
      }

      pub went_goes : Remembers → GoesOn keeps reads may_hold new
      went_goes memory =
          let settled = through_settled keeps reads may_hold faults old.master.pages old.master.replica old.disk new.disk ps b p under goes.rest.modelled goes.rest.unsynced means goes.ahead goes.ordered goes.rest.keeping took now in
          let says = through_says keeps reads may_hold faults old.master.pages old.master.replica old.disk new.disk ps b p under goes.rest.modelled goes.rest.unsynced means goes.ahead goes.ordered goes.rest.keeping took now in
          record {
            rest = record {
              modelled = subst IsTrue (sym settled.keeps_same) goes.rest.modelled;
              unsynced = settled.unsynced;
              keeping = subst (λ (n : ℕ). IsKeeping n new.master.replica (reads_of reads new.disk)) (sym pages) (subst (λ (n : ℕ). IsKeeping old.master.pages n (reads_of reads new.disk)) (sym replica) says.keeping);
            };
            synced = memory.synced;
            master = memory.master;
            suspects = memory.suspects;
            log = memory.log;
            current = memory.current;
            ahead = through_ahead keeps reads may_hold faults old.master.pages old.master.replica old.disk new.disk ps b p under goes.rest.modelled goes.rest.unsynced means goes.ahead goes.ordered goes.rest.keeping took now;
            ordered = ap (λ (q : Progress). q.order) all_passed ∙ through_ordered keeps reads may_hold faults old.master.pages old.master.replica old.disk new.disk ps b p under goes.rest.modelled goes.rest.unsynced means goes.ahead goes.ordered goes.rest.keeping took now;
          }

      pub went_under : new.progress.came ≡ Underway
      went_under = ap (λ (q : Progress). q.came) all_passed ∙ under

    -- the order was reached
    module _ (broke : FailsOnTheWay (did_of keeps reads may_hold faults) old.disk ps new.disk) where
      pub broke_risen : (WasOrdered new.disk.why → ⊥) → HasRisen (faults old.disk.disk) (faults new.disk.disk)
      broke_risen none = risen keeps reads may_hold faults old.master.pages old.master.replica old.disk new.disk ps b old.progress under goes.rest.modelled goes.rest.unsynced means goes.ahead goes.ordered goes.rest.keeping broke none

      abbrev past : Progress
      past = old.progress

      ends : WasOrdered new.disk.why → Broke keeps reads may_hold faults old.master.pages old.master.replica old.disk new.disk ps b past under goes.rest.modelled goes.rest.unsynced means goes.ahead goes.ordered goes.rest.keeping broke (broken_by past.order past b)
      ends so = broken_so keeps reads may_hold faults old.master.pages old.master.replica old.disk new.disk ps b past under goes.rest.modelled goes.rest.unsynced means goes.ahead goes.ordered goes.rest.keeping broke so

      pub within : WasOrdered new.disk.why → IsWithin past.order (length b)
      within so = within_only keeps reads may_hold faults old.master.pages old.master.replica old.disk new.disk ps b past under goes.rest.modelled goes.rest.unsynced means goes.ahead goes.ordered goes.rest.keeping broke so

      module _ (so : WasOrdered new.disk.why) (all_broken : new.progress ≡ broken_by old.progress.order old.progress b) where
        pub broke_performs : Performs reads old b new
        broke_performs = record {
          reached = ap (λ (q : Progress). came_so q.came q (kept_on new.master.pages (reads_of reads new.disk))) all_broken
              ∙ ap (λ (n : ℕ). came_so (broken_by past.order past b).came (broken_by past.order past b) (kept_on n (reads_of reads new.disk))) pages
              ∙ (ends so).reached;
          pages = pages;
          replica = replica;
          others = others_stay (reads_of reads old.disk) (reads_of reads new.disk) ps b (ends so).wrote apart;
        }

        pub broke_rests : IsAtRest keeps reads new
        broke_rests = record {
          modelled = subst IsTrue (sym (ends so).settled.keeps_same) goes.rest.modelled;
          unsynced = (ends so).settled.unsynced;
          keeping = subst (λ (n : ℕ). IsKeeping n new.master.replica (reads_of reads new.disk)) (sym pages) (subst (λ (n : ℕ). IsKeeping old.master.pages n (reads_of reads new.disk)) (sym replica) (ends so).keeping);
        }

        rest_at : (c : Came) → HoldsOnly c → HoldsAt keeps reads may_hold new c
        rest_at Underway only = absurd only
        rest_at Stopped only = broke_rests
        rest_at Failed only = broke_rests
        rest_at Unknown only = tt

        pub broke_holds : HoldsAt keeps reads may_hold new new.progress.came
        broke_holds = rest_at new.progress.came (subst (λ (q : Progress). HoldsOnly q.came) (sym all_broken) (ends so).rests)

    -- each sector has what it had, or what was written
    wrote_by : (went done : Result (Unit {0}) DurableFault) (why : Why) → Did ps b went done why → OnOk done (WasOrWrote (reads_of reads old.disk) ps (reads_of reads new.disk))
    wrote_by (Ok u) (Ok v) why d = whole_wrote (reads_of reads old.disk) (reads_of reads new.disk) ps d.wrote
    wrote_by (Err DiskFault) (Ok v) why d = (let so = subst WasOrdered d.why_is (d.breaks refl).0 in (ends (d.broke refl) so).wrote)
    wrote_by (Err NoMemory) (Ok v) why d = absurd (d.known refl)
    wrote_by went (Err e) why d = tt

    -- where more can be written, all was written
    all_by : (went done : Result (Unit {0}) DurableFault) (why : Why) → Did ps b went done why → OnOk done (new.progress.came ≡ Underway → reads_of reads new.disk ≡ put_all (reads_of reads old.disk) (sectors_in ps))
    all_by (Ok u) (Ok v) why d = λ on. d.wrote
    all_by (Err DiskFault) (Ok v) why d =
        let t = d.breaks refl in
        let so = subst WasOrdered d.why_is t.0 in
        λ on. absurd (subst HoldsOnly (sym (ap (λ (q : Progress). q.came) (t.1 (within (d.broke refl) so))) ∙ on) (ends (d.broke refl) so).rests)
    all_by (Err NoMemory) (Ok v) why d = absurd (d.known refl)
    all_by went (Err e) why d = tt

    -- all of it
    by_cases : (went done : Result (Unit {0}) DurableFault) (why : Why) → Did ps b went done why → OnOk done (Performs reads old b new) × HoldsAt keeps reads may_hold new new.progress.came
    by_cases (Ok u) (Ok v) why d = (
      went_performs d.took d.wrote d.passes,
      subst (HoldsAt keeps reads may_hold new) (sym (went_under d.took d.wrote d.passes)) (went_goes d.took d.wrote d.passes d.memory),
    )
    by_cases (Err DiskFault) (Ok v) why d =
        let t = d.breaks refl in
        let so = subst WasOrdered d.why_is t.0 in
        (broke_performs (d.broke refl) so (t.1 (within (d.broke refl) so)), broke_holds (d.broke refl) so (t.1 (within (d.broke refl) so)))
    by_cases (Err NoMemory) (Ok v) why d = absurd (d.known refl)
    by_cases went (Err e) why d = (tt, subst (HoldsAt keeps reads may_hold new) (sym d.unknown) tt)

    module _ (went done : Result (Unit {0}) DurableFault) (why : Why) (d : Did ps b went done why) where
      pub settled_performs : OnOk done (Performs reads old b new)
      settled_performs = (by_cases went done why d).0

      pub settled_wrote : OnOk done (WasOrWrote (reads_of reads old.disk) ps (reads_of reads new.disk))
      settled_wrote = wrote_by went done why d

      pub settled_all : OnOk done (new.progress.came ≡ Underway → reads_of reads new.disk ≡ put_all (reads_of reads old.disk) (sectors_in ps))
      settled_all = all_by went done why d

      pub settled_stands : log_end ≤ size new.disk.disk → Stands size keeps reads may_hold new
      settled_stands room = record { room = room; holds = (by_cases went done why d).1 }

      pub settled_risen : IsErrOf done DiskFault → HasRisen (faults old.disk.disk) (faults new.disk.disk)
      settled_risen failed =
          let f = d.fault failed in
          broke_risen (d.broke (ap_err went f.0)) (λ (so : WasOrdered new.disk.why). f.1 (subst WasOrdered (sym d.why_is) so))
