-- How far an event has come once one more batch was given to its disk.
use Rattle.std.specs.Prelude.{◌≡◌, ℕ, ◌+◌, ◌++◌, List, length, take, false, if◌then◌else◌}
use Rattle.ag_model.specs.Cells.{keeps_all}
use Rattle.ag_model.specs.Rows.{contains}
use Rattle.ag_outside.specs.declared.order.Why.{Why}
use Rattle.ag_outside.specs.declared.order.Why.TheVariants.{Nothing, Stopped as StoppedSo, Device, Inner}
use Rattle.ag_outside.specs.Disks.{Image}
use Rattle.ag_outside.specs.Shown.{reads_of}
use Rattle.ag_pagestore.specs.Places.{IsPage, image_of}
use Rattle.ag_rules.specs.Plan.{Batch}
use Rattle.ag_rules.specs.Cut.{steps_of, steps_kept}
use Rattle.ag_writes.specs.declared.order.Order.{Order}
use Rattle.ag_writes.specs.declared.order.Order.TheVariants.{Free, StopAt, FailAt}
use Rattle.ag_writes.specs.Performing.{nearer, pages_named, after_batch}
use Rattle.ag_durable.specs.declared.progress.Came.TheVariants.{Stopped, Failed, Unknown}
use Rattle.ag_durable.specs.declared.progress.Progress.{Progress}
use Rattle.ag_durable.specs.Views.{DurableView, reached_of}

-- the batch went through
abbrev pub passed : Progress → Batch → Progress
passed p b = record p { order = nearer (length b) p.order; steps = p.steps + steps_of b; writes = p.writes + length b; named = p.named ++ pages_named b }

-- the order was reached in the batch
abbrev pub broken_by : Order → Progress → Batch → Progress
broken_by (StopAt w mask) p b = record p { steps = p.steps + steps_kept mask 0 (take (w + 1) b); writes = p.writes + (w + 1); named = p.named ++ pages_named (take (w + 1) b); came = Stopped }
broken_by (FailAt c) p b = record p { came = Failed }
broken_by Free p b = record p { came = Unknown }

-- one step went through
abbrev pub step_passed : Progress → Progress
step_passed p = record p { order = nearer 1 p.order; steps = p.steps + 1; writes = p.writes + 1 }

-- the order was reached in a step of so many sectors
abbrev pub step_broken : Order → Progress → ℕ → Progress
step_broken (StopAt w mask) p sectors = record p { steps = p.steps + (if keeps_all mask 0 sectors then 1 else 0); writes = p.writes + 1; came = Stopped }
step_broken (FailAt c) p sectors = record p { came = Failed }
step_broken Free p sectors = record p { came = Unknown }

-- the sync of a batch that writes nothing went through, or the order was reached in it
abbrev pub sync_passed : Progress → Progress
sync_passed p = record p { order = nearer 0 p.order }

abbrev pub sync_broken : Order → Progress → Progress
sync_broken (StopAt w mask) p = record p { came = Unknown }
sync_broken (FailAt c) p = record p { came = Failed }
sync_broken Free p = record p { came = Unknown }

-- a batch of these pages went through, or the order was reached in it
abbrev pub pages_passed : Progress → List ℕ → Progress
pages_passed p pages = record p { order = nearer (length pages) p.order; writes = p.writes + length pages; named = p.named ++ pages }

abbrev pub pages_broken : Order → Progress → List ℕ → Progress
pages_broken (StopAt w mask) p pages = record p { writes = p.writes + (w + 1); named = p.named ++ take (w + 1) pages; came = Stopped }
pages_broken (FailAt c) p pages = record p { came = Failed }
pages_broken Free p pages = record p { came = Unknown }

-- the disk says that its order was reached
abbrev pub WasOrdered : Why → Type 0
WasOrdered Nothing = ⊥
WasOrdered (StoppedSo write kept) = Unit {0}
WasOrdered Device = Unit {0}
WasOrdered Inner = ⊥

-- the batch was performed, for the same replica; each page that it doesn't name has the image that it had
pub record Performs {D : Type 0} (reads : D → Image) (old : DurableView D) (b : Batch) (new : DurableView D) : Type 0 where
  pub reached : reached_of reads new ≡ after_batch (reached_of reads old) b
  pub pages : new.master.pages ≡ old.master.pages
  pub replica : new.master.replica ≡ old.master.replica
  pub others : (page : ℕ) → IsPage page → contains page (pages_named b) ≡ false → image_of (reads_of reads new.disk) page ≡ image_of (reads_of reads old.disk) page
