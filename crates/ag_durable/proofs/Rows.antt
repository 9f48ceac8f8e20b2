-- What one sector of suspect rows makes of a replica's data.
use Rattle.std.proofs.Common.{◌≡◌, ℕ, ◌<◌, ◌≤◌, ◌^◌, List, [], ◌∷◌, Bool, true, IsTrue, Ok, Err, refl, sym, ap, ◌∙◌, subst, arith}
use Rattle.std.specs.Prelude.{Result, IfOk, OnOk, OnErr, IsErr, IsErrOf}
use Rattle.ag_model.specs.declared.answer.SuspectRow.{SuspectRow}
use Rattle.ag_outside.specs.declared.disk.SectorWrite.{SectorWrite}
use Rattle.ag_outside.specs.declared.order.Why.{Why}
use Rattle.ag_outside.specs.Counts.{HasRisen}
use Rattle.ag_outside.specs.Calls.{TakesAll, FailsOnTheWay}
use Rattle.ag_outside.specs.Disks.{Content, Image, Only, put}
use Rattle.ag_outside.specs.Scripts.{ScriptedView}
use Rattle.ag_outside.specs.Shown.{reads_of, holds_of, did_of}
use Rattle.ag_logstore.specs.Stored.{log_end}
use Rattle.ag_logstore.specs.Stores.{IsCurrent}
use Rattle.ag_kept.specs.Kept.{master_on}
use Rattle.ag_suspect.specs.declared.fault.SuspectFault.{SuspectFault}
use Rattle.ag_suspect.specs.declared.fault.SuspectFault.TheVariants.{DiskFault as RowDiskFault}
use Rattle.ag_suspect.specs.Rows.{suspects_on, HasRows}
use Rattle.ag_suspect.specs.Places.{row_place, repaired, noted_sector, repaired_sector, piece_of}
use Rattle.ag_suspect.proofs.Standing.{noted-stands, repaired-stands, noted-place, repaired-place, sector-within}
use Rattle.ag_suspect.proofs.Found.{are_read}
use Rattle.ag_rules.specs.Plan.{Write, Note_write, Repaired_write, has_row, can_note, noted}
use Rattle.ag_keeping.specs.Keeping.{IsKeeping, store_on}
use Rattle.ag_keeping.specs.Meaning.{Mean}
use Rattle.ag_keeping.proofs.Meanings.{note_means, mark_means}
use Rattle.ag_keeping.proofs.Suspects.{rows_master, rows_store, rows_current}
use Rattle.ag_durable.specs.declared.fault.DurableFault.{DurableFault}
use Rattle.ag_durable.specs.declared.fault.DurableFault.TheVariants.{DiskFault, NoMemory}
use Rattle.ag_durable.specs.declared.progress.Came.TheVariants.{Underway, Unknown}
use Rattle.ag_durable.specs.declared.progress.Progress.{Progress}
use Rattle.ag_durable.specs.Views.{DurableView}
use Rattle.ag_durable.specs.Standing.{GoesOn, HoldsAt, Stands}
use Rattle.ag_durable.specs.Coming.{step_passed, step_broken, WasOrdered, Performs}
use Rattle.ag_durable.proofs.Touched.{IsApart, apart_below}
use Rattle.ag_durable.proofs.Singles.{IsStep, one_whole, step_passes, step_breaks}
use Rattle.ag_pieces.specs.Pieces.{sectors_in}
use Rattle.ag_outside.specs.Disks.{put_all}
use Rattle.ag_durable.proofs.Settled.{Remembers, Did, on_taken, on_ok1, on_ok3, settled_performs, settled_stands, settled_risen}

module _ {D : Type 0} (size : D → ℕ) (keeps : D → Bool) (reads : D → Image) (may_hold : D → ℕ → Content → Type 0) (faults : D → ℕ) (old : DurableView D) (disk : ScriptedView D) (rows : List SuspectRow) (q : Progress)
    (under : old.progress.came ≡ Underway) (stands : Stands size keeps reads may_hold old) (w : Write) (is_step : IsStep w 1) (s : SectorWrite) (low : 1 ≤ s.at) (high : s.at < 64) (then : List SuspectRow)
    (stand : HasRows (put (reads_of reads old.disk) s) then) (means : Mean old.master.pages old.master.replica (reads_of reads old.disk) (piece_of s ∷ []) (w ∷ [])) where
  abbrev new : DurableView D
  new = record { disk = disk; log = old.log; master = old.master; suspects = rows; appends = old.appends; progress = q }

  goes : GoesOn keeps reads may_hold old
  goes = subst (HoldsAt keeps reads may_hold old) under stands.holds

  abbrev was : Image
  was = reads_of reads old.disk

  abbrev Wrote : Type 0
  Wrote = IsTrue (keeps old.disk.disk) → reads_of reads disk ≡ put (reads_of reads old.disk) s

  abbrev Durably : Type 0
  Durably = IsTrue (keeps old.disk.disk) → Only (reads_of reads disk) (holds_of keeps may_hold disk)

  remembers : rows ≡ then → Wrote → Durably → Remembers size keeps reads may_hold faults old new
  remembers rows_are wrote durable =
      let now = wrote goes.rest.modelled in
      let store = ap store_on now ∙ rows_store old.master.pages old.master.replica was goes.rest.keeping s low high then stand ∙ goes.log in
      record {
        synced = durable goes.rest.modelled;
        master = ap master_on now ∙ rows_master old.master.pages old.master.replica was goes.rest.keeping s low high then stand ∙ goes.master;
        suspects = ap suspects_on now ∙ are_read (put was s) then stand ∙ sym rows_are;
        log = store;
        current = λ yes. subst (λ (i : Image). IsCurrent i old.log) (sym now) (rows_current old.master.pages old.master.replica was goes.rest.keeping s low high then stand old.log (goes.current yes));
      }

  module _ {A : Type 0} (r : Result A SuspectFault) (went done : Result (Unit {0}) DurableFault) (why : Why) (why_is : why ≡ disk.why) (refused : OnErr r (IsErr went)) (failed : IsErrOf went DiskFault → IsErrOf r RowDiskFault)
      (changed : OnOk r (rows ≡ then)) (written : OnOk r Wrote) (durable : OnOk r Durably)
      (calls : OnOk r (TakesAll (did_of keeps reads may_hold faults) old.disk (piece_of s ∷ []) disk)) (broken : IsErrOf r RowDiskFault → FailsOnTheWay (did_of keeps reads may_hold faults) old.disk (piece_of s ∷ []) disk)
      (passes : OnOk done (OnOk went (q ≡ step_passed old.progress))) (breaks : OnOk done (IsErrOf went DiskFault → WasOrdered why × (q ≡ step_broken old.progress.order old.progress 1)))
      (known : OnOk done (went ≡ Err NoMemory → ⊥)) (fault : IsErrOf done DiskFault → (went ≡ Err DiskFault) × (WasOrdered why → ⊥)) (unknown : OnErr done (q.came ≡ Unknown)) where
    apart : IsApart (piece_of s ∷ []) (w ∷ [])
    apart = apart_below (piece_of s) (w ∷ []) (omega (arith, high))

    did : Did size keeps reads may_hold faults old new ((piece_of s) ∷ []) (w ∷ []) went done why
    did = record {
      why_is = why_is;
      took = on_taken (TakesAll (did_of keeps reads may_hold faults) old.disk (piece_of s ∷ []) disk) r went refused calls;
      wrote = on_taken (reads_of reads disk ≡ put_all was (sectors_in (piece_of s ∷ []))) r went refused
          (on_ok1 Wrote (reads_of reads disk ≡ put_all was (sectors_in (piece_of s ∷ []))) r written (λ wrote. one_whole was (reads_of reads disk) (piece_of s) (wrote goes.rest.modelled)));
      memory = on_taken (Remembers size keeps reads may_hold faults old new) r went refused (on_ok3 (rows ≡ then) Wrote Durably (Remembers size keeps reads may_hold faults old new) r changed written durable remembers);
      broke = λ is. broken (failed is);
      passes = step_passes w 1 is_step old.progress q went done passes;
      breaks = step_breaks w 1 is_step old.progress q went done why breaks;
      known = known;
      fault = fault;
      unknown = unknown;
    }

    pub row_performs : OnOk done (Performs reads old (w ∷ []) new)
    row_performs = settled_performs size keeps reads may_hold faults old new ((piece_of s) ∷ []) (w ∷ []) under goes means refl refl apart went done why did

    pub row_stands : log_end ≤ size disk.disk → Stands size keeps reads may_hold new
    row_stands room = settled_stands size keeps reads may_hold faults old new ((piece_of s) ∷ []) (w ∷ []) under goes means refl refl apart went done why did room

    pub row_risen : IsErrOf done DiskFault → HasRisen (faults old.disk.disk) (faults disk.disk)
    row_risen = settled_risen size keeps reads may_hold faults old new ((piece_of s) ∷ []) (w ∷ []) under goes means refl refl apart went done why did

-- what a change of the rows writes, and what it means
pub record RowFacts (pages replica : ℕ) (image : Image) (s : SectorWrite) (w : Write) (then : List SuspectRow) : Type 0 where
  pub low : 1 ≤ s.at
  pub high : s.at < 64
  pub stand : HasRows (put image s) then
  pub means : Mean pages replica image (piece_of s ∷ []) (w ∷ [])

module _ (pages replica : ℕ) (image : Image) (h : IsKeeping pages replica image) where
  own_note : (page kind : ℕ) → 1 ≤ page → page < 2 ^ 16 → kind < 2 ^ 8 → can_note page (suspects_on image) ≡ true
      → RowFacts pages replica image (noted_sector page kind (suspects_on image)) (Note_write page kind) (noted page kind (suspects_on image))
  own_note page kind some small fits can =
      let within = sector-within (row_place page (suspects_on image)) (noted-place (suspects_on image) page h.suspects.few can) in
      record { low = within.0; high = within.1; stand = noted-stands image (suspects_on image) page kind h.suspects some small fits can; means = note_means pages replica image h page kind some small fits can }

  own_mark : (page : ℕ) → has_row page (suspects_on image) ≡ true → RowFacts pages replica image (repaired_sector page (suspects_on image)) (Repaired_write page) (repaired page (suspects_on image))
  own_mark page had =
      let within = sector-within (row_place page (suspects_on image)) (repaired-place (suspects_on image) page h.suspects.few had) in
      record { low = within.0; high = within.1; stand = repaired-stands image (suspects_on image) page h.suspects had; means = mark_means pages replica image h page had }

  pub note_facts : (rows : List SuspectRow) (page kind : ℕ) → suspects_on image ≡ rows → 1 ≤ page → page < 2 ^ 16 → kind < 2 ^ 8 → can_note page rows ≡ true
      → RowFacts pages replica image (noted_sector page kind rows) (Note_write page kind) (noted page kind rows)
  note_facts rows page kind is some small fits can =
      subst (λ (rs : List SuspectRow). RowFacts pages replica image (noted_sector page kind rs) (Note_write page kind) (noted page kind rs)) is
      (own_note page kind some small fits (subst (λ (rs : List SuspectRow). can_note page rs ≡ true) (sym is) can))

  pub mark_facts : (rows : List SuspectRow) (page : ℕ) → suspects_on image ≡ rows → has_row page rows ≡ true → RowFacts pages replica image (repaired_sector page rows) (Repaired_write page) (repaired page rows)
  mark_facts rows page is had =
      subst (λ (rs : List SuspectRow). RowFacts pages replica image (repaired_sector page rs) (Repaired_write page) (repaired page rs)) is
      (own_mark page (subst (λ (rs : List SuspectRow). has_row page rs ≡ true) (sym is) had))

-- what holds where a row was marked
pub when_marked : {E : Type 0} (P : Type 0) (r : Result Bool E) (b : Bool) → b ≡ true → IfOk r (λ there. there ≡ b) → (r ≡ Ok true → P) → OnOk r P
when_marked P (Ok there) b is told f = f (ap (λ (x : Bool). Ok x) (told ∙ is))
when_marked P (Err e) b is told f = tt
