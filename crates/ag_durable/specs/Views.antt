-- What is seen of a replica's data on its disk, in the middle of an event.
use Rattle.std.specs.Prelude.{List, Bool}
use Rattle.ag_model.specs.declared.answer.SuspectRow.{SuspectRow}
use Rattle.ag_outside.specs.Disks.{Image}
use Rattle.ag_outside.specs.Scripts.{ScriptedView}
use Rattle.ag_outside.specs.Shown.{reads_of}
use Rattle.ag_master.specs.declared.master.Master.{Master}
use Rattle.ag_logstore.specs.Stores.{StoreView}
use Rattle.ag_rules.specs.Replica.{Kept}
use Rattle.ag_writes.specs.Performing.{Reached, Through, StoppedIn, FailedAfter}
use Rattle.ag_keeping.specs.Keeping.{kept_on}
use Rattle.ag_durable.specs.declared.progress.Came.{Came}
use Rattle.ag_durable.specs.declared.progress.Came.TheVariants.{Underway, Stopped, Failed, Unknown}
use Rattle.ag_durable.specs.declared.progress.Progress.{Progress}

-- the disk, what memory has of it, whether a block can follow the log, and how far the event has come
pub record DurableView (D : Type 0) : Type 0 where
  pub disk : ScriptedView D
  pub log : StoreView
  pub master : Master
  pub suspects : List SuspectRow
  pub appends : Bool
  pub progress : Progress

-- what stands on the disk
abbrev pub kept_of : {D : Type 0} → (D → Image) → DurableView D → Kept
kept_of reads v = kept_on v.master.pages (reads_of reads v.disk)

-- what came of the event's writes, where this stands on the disk; where that isn't known, it is said as of a failed call
abbrev pub came_so : Came → Progress → Kept → Reached
came_so Underway p k = Through (record { order = p.order; kept = k; steps = p.steps; writes = p.writes; named = p.named })
came_so Stopped p k = StoppedIn p.writes p.steps p.named k
came_so Failed p k = FailedAfter p.steps k
came_so Unknown p k = FailedAfter p.steps k

-- what came of the event's writes
abbrev pub reached_of : {D : Type 0} → (D → Image) → DurableView D → Reached
reached_of reads v = came_so v.progress.came v.progress (kept_of reads v)
