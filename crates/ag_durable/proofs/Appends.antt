-- What a block more makes of a replica's data.
use Rattle.std.proofs.Common.{◌≡◌, ℕ, ◌+◌, ◌<◌, ◌≤◌, ◌^◌, List, [], ◌∷◌, length, refl, sym, ap, ◌∙◌, subst, arith}
use Rattle.ag_model.specs.declared.message.Block.{Block as BlockOf}
use Rattle.ag_model.specs.declared.record.Record.{Record}
use Rattle.ag_model.specs.Blocks.{with_block}
use Rattle.ag_outside.specs.Disks.{Image, put_all, writes}
use Rattle.ag_logstore.specs.Stores.{StoreView, IsCurrent, Follows, sector_after, stored_by, sectors_by, piece_by}
use Rattle.ag_kept.specs.Kept.{master_on}
use Rattle.ag_kept.specs.Starting.{own_log}
use Rattle.ag_suspect.specs.Rows.{suspects_on}
use Rattle.ag_rules.specs.Replica.{Kept}
use Rattle.ag_rules.specs.Plan.{Block_write}
use Rattle.ag_keeping.specs.Keeping.{IsKeeping, store_on, next_block}
use Rattle.ag_keeping.specs.Meaning.{Mean}
use Rattle.ag_keeping.proofs.Meanings.{block_means}
use Rattle.std.proofs.Common.{Bool, true, IsTrue, Err}
use Rattle.std.specs.Prelude.{Result, OnOk, OnErr, IsErr, IsErrOf}
use Rattle.ag_model.specs.Sizes.{block_sectors}
use Rattle.ag_outside.specs.declared.order.Why.{Why}
use Rattle.ag_outside.specs.Counts.{HasRisen}
use Rattle.ag_outside.specs.Calls.{Piece, TakesAll, FailsOnTheWay}
use Rattle.ag_outside.specs.Disks.{Content, Only}
use Rattle.ag_outside.specs.Scripts.{ScriptedView}
use Rattle.ag_outside.specs.Shown.{reads_of, holds_of, did_of}
use Rattle.ag_logstore.specs.declared.fault.LogFault.{LogFault}
use Rattle.ag_logstore.specs.declared.fault.LogFault.TheVariants.{DiskFault as LogDiskFault}
use Rattle.ag_logstore.specs.Stored.{log_end}
use Rattle.ag_durable.specs.declared.fault.DurableFault.{DurableFault}
use Rattle.ag_durable.specs.declared.fault.DurableFault.TheVariants.{DiskFault, NoMemory}
use Rattle.ag_durable.specs.declared.progress.Came.TheVariants.{Underway, Unknown}
use Rattle.ag_durable.specs.declared.progress.Progress.{Progress}
use Rattle.ag_durable.specs.Views.{DurableView}
use Rattle.ag_durable.specs.Standing.{GoesOn, HoldsAt, Stands}
use Rattle.ag_durable.specs.Coming.{step_passed, step_broken, WasOrdered, Performs}
use Rattle.ag_durable.proofs.Touched.{apart_above}
use Rattle.ag_durable.proofs.Singles.{IsStep, one_whole, step_passes, step_breaks}
use Rattle.ag_pieces.specs.Pieces.{sectors_in}
use Rattle.ag_durable.proofs.Settled.{Remembers, Did, on_taken, on_ok3, on_ok1, settled_performs, settled_stands, settled_risen}
use Rattle.ag_keeping.proofs.Blocks.{block_says, block_current, block_store, block_master}

-- a block that is written after the log of this store
abbrev block_at : ℕ → ℕ → List Record → BlockOf
block_at term first new = record { term = term; first = first; records = new }

abbrev pub appended : Image → StoreView → BlockOf → Image
appended image s block = put_all image (writes (sector_after s.log) (sectors_by s.incarnation block))

-- what it means, and what memory has then
pub record AppendMeans (pages replica : ℕ) (image : Image) (s : StoreView) (block : BlockOf) : Type 0 where
  pub means : Mean pages replica image (piece_by s.log s.incarnation block ∷ []) (Block_write block.records ∷ [])
  pub store : store_on (appended image s block) ≡ record s { log = with_block s.log block.records }
  pub master : master_on (appended image s block) ≡ master_on image
  pub suspects : suspects_on (appended image s block) ≡ suspects_on image
  pub current : IsCurrent (appended image s block) (store_on (appended image s block))

module _ (pages replica : ℕ) (image : Image) (h : IsKeeping pages replica image) where
  own_means : (term : ℕ) (new : List Record) → IsCurrent image (store_on image) → Follows (store_on image) (next_block image term new)
      → AppendMeans pages replica image (store_on image) (block_at term (length (own_log image).records + 1) new)
  own_means term new cur f = record {
    means = block_means pages replica image h cur term new f;
    store = block_store pages replica image h cur term new f;
    master = block_master pages replica image h cur term new f;
    suspects = ap (λ (k : Kept). k.suspects) (block_says pages replica image h cur term new f).kept;
    current = block_current pages replica image h cur term new f;
  }

  pub append_means : (s : StoreView) (block : BlockOf) → store_on image ≡ s → IsCurrent image s → Follows s (stored_by s.incarnation block) → block.first ≡ length s.log.records + 1 → AppendMeans pages replica image s block
  append_means s block is cur f first =
      subst (λ (n : ℕ). AppendMeans pages replica image s (block_at block.term n block.records)) (sym first)
      (subst (λ (t : StoreView). AppendMeans pages replica image t (block_at block.term (length t.log.records + 1) block.records)) is
      (own_means block.term block.records (subst (IsCurrent image) (sym is) cur)
      (subst (λ (t : StoreView). Follows t (stored_by t.incarnation (block_at block.term (length t.log.records + 1) block.records))) (sym is)
      (subst (λ (n : ℕ). Follows s (stored_by s.incarnation (block_at block.term n block.records))) first f))))

-- an event that goes on, and the bounds of its log's incarnation
module _ {D : Type 0} (size : D → ℕ) (keeps : D → Bool) (reads : D → Image) (may_hold : D → ℕ → Content → Type 0) (faults : D → ℕ) (old : DurableView D) (under : old.progress.came ≡ Underway) (stands : Stands size keeps reads may_hold old) where
  pub under_goes : GoesOn keeps reads may_hold old
  under_goes = subst (HoldsAt keeps reads may_hold old) under stands.holds

  pub goes_ready : (1 ≤ old.log.incarnation) × (old.log.incarnation < 2 ^ 64)
  goes_ready =
      let keeping = under_goes.rest.keeping in (
        subst (λ (s : StoreView). 1 ≤ s.incarnation) under_goes.log keeping.least,
        subst (λ (s : StoreView). s.incarnation < 2 ^ 64) under_goes.log keeping.fits.incarnation,
      )

module _ {D : Type 0} (size : D → ℕ) (keeps : D → Bool) (reads : D → Image) (may_hold : D → ℕ → Content → Type 0) (faults : D → ℕ) (old : DurableView D) (disk : ScriptedView D) (log : StoreView) (q : Progress) (block : BlockOf) (sectors : ℕ)
    (under : old.progress.came ≡ Underway) (stands : Stands size keeps reads may_hold old) (appends : old.appends ≡ true) (f : Follows old.log (stored_by old.log.incarnation block)) (first : block.first ≡ length old.log.log.records + 1)
    (sectors_are : sectors ≡ block_sectors block.records) where
  abbrev new : DurableView D
  new = record { disk = disk; log = log; master = old.master; suspects = old.suspects; appends = old.appends; progress = q }

  abbrev piece : Piece
  piece = piece_by old.log.log old.log.incarnation block

  pub goes : GoesOn keeps reads may_hold old
  goes = subst (HoldsAt keeps reads may_hold old) under stands.holds

  facts : AppendMeans old.master.pages old.master.replica (reads_of reads old.disk) old.log block
  facts = append_means old.master.pages old.master.replica (reads_of reads old.disk) goes.rest.keeping old.log block goes.log (goes.current appends) f first

  is_step : IsStep (Block_write block.records) sectors
  is_step = record { step = refl; sectors_are = sym sectors_are; no_page = refl }

  remembers : log ≡ record old.log { log = with_block old.log.log block.records } → (IsTrue (keeps old.disk.disk) → reads_of reads disk ≡ appended (reads_of reads old.disk) old.log block)
      → (IsTrue (keeps old.disk.disk) → Only (reads_of reads disk) (holds_of keeps may_hold disk)) → Remembers size keeps reads may_hold faults old new
  remembers ok written durable =
      let now = written goes.rest.modelled in
      let store : store_on (reads_of reads disk) ≡ log = ap store_on now ∙ facts.store ∙ sym ok in
      record {
        synced = durable goes.rest.modelled;
        master = ap master_on now ∙ facts.master ∙ goes.master;
        suspects = ap suspects_on now ∙ facts.suspects ∙ goes.suspects;
        log = store;
        current = λ yes. subst (IsCurrent (reads_of reads disk)) store (subst (λ (i : Image). IsCurrent i (store_on i)) (sym now) facts.current);
      }

  module _ (r : Result ℕ LogFault) (went done : Result (Unit {0}) DurableFault) (why : Why) (why_is : why ≡ disk.why) (refused : OnErr r (IsErr went)) (failed : IsErrOf went DiskFault → IsErrOf r LogDiskFault)
      (ok : OnOk r (log ≡ record old.log { log = with_block old.log.log block.records })) (written : OnOk r (IsTrue (keeps old.disk.disk) → reads_of reads disk ≡ appended (reads_of reads old.disk) old.log block))
      (durable : OnOk r (IsTrue (keeps old.disk.disk) → Only (reads_of reads disk) (holds_of keeps may_hold disk)))
      (calls : OnOk r (TakesAll (did_of keeps reads may_hold faults) old.disk (piece_by old.log.log old.log.incarnation block ∷ []) disk)) (broken : IsErrOf r LogDiskFault → FailsOnTheWay (did_of keeps reads may_hold faults) old.disk (piece_by old.log.log old.log.incarnation block ∷ []) disk)
      (passes : OnOk done (OnOk went (q ≡ step_passed old.progress))) (breaks : OnOk done (IsErrOf went DiskFault → WasOrdered why × (q ≡ step_broken old.progress.order old.progress sectors)))
      (known : OnOk done (went ≡ Err NoMemory → ⊥)) (fault : IsErrOf done DiskFault → (went ≡ Err DiskFault) × (WasOrdered why → ⊥)) (unknown : OnErr done (q.came ≡ Unknown)) where
    did : Did size keeps reads may_hold faults old new (piece ∷ []) (Block_write block.records ∷ []) went done why
    did = record {
      why_is = why_is;
      took = on_taken (TakesAll (did_of keeps reads may_hold faults) old.disk (piece ∷ []) disk) r went refused calls;
      wrote = on_taken (reads_of reads disk ≡ put_all (reads_of reads old.disk) (sectors_in (piece ∷ []))) r went refused
          (on_ok1 (IsTrue (keeps old.disk.disk) → reads_of reads disk ≡ appended (reads_of reads old.disk) old.log block) (reads_of reads disk ≡ put_all (reads_of reads old.disk) (sectors_in (piece ∷ []))) r written
          (λ w. one_whole (reads_of reads old.disk) (reads_of reads disk) piece (w goes.rest.modelled)));
      memory = on_taken (Remembers size keeps reads may_hold faults old new) r went refused
          (on_ok3 (log ≡ record old.log { log = with_block old.log.log block.records }) (IsTrue (keeps old.disk.disk) → reads_of reads disk ≡ appended (reads_of reads old.disk) old.log block) (IsTrue (keeps old.disk.disk) → Only (reads_of reads disk) (holds_of keeps may_hold disk))
          (Remembers size keeps reads may_hold faults old new) r ok written durable remembers);
      broke = λ is. broken (failed is);
      passes = step_passes (Block_write block.records) sectors is_step old.progress q went done passes;
      breaks = step_breaks (Block_write block.records) sectors is_step old.progress q went done why breaks;
      known = known;
      fault = fault;
      unknown = unknown;
    }

    pub append_performs : OnOk done (Performs reads old (Block_write block.records ∷ []) new)
    append_performs = settled_performs size keeps reads may_hold faults old new (piece ∷ []) (Block_write block.records ∷ []) under goes facts.means refl refl (apart_above piece (Block_write block.records ∷ []) (omega arith)) went done why did

    pub append_stands : log_end ≤ size disk.disk → Stands size keeps reads may_hold new
    append_stands room = settled_stands size keeps reads may_hold faults old new (piece ∷ []) (Block_write block.records ∷ []) under goes facts.means refl refl (apart_above piece (Block_write block.records ∷ []) (omega arith)) went done why did room

    pub append_risen : IsErrOf done DiskFault → HasRisen (faults old.disk.disk) (faults disk.disk)
    append_risen = settled_risen size keeps reads may_hold faults old new (piece ∷ []) (Block_write block.records ∷ []) under goes facts.means refl refl (apart_above piece (Block_write block.records ∷ []) (omega arith)) went done why did
