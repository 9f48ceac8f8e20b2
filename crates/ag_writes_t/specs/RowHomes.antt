-- A home of suspect rows in memory, which keeps the writes themselves.
use Rattle.std.specs.Prelude.{ℕ, ◌+◌, ◌<◌, ◌^◌, List, [], length, Bool, true, false, IsTrue}
use Rattle.std.specs.List.{fold, list_all, AllByRecursion}
use Rattle.ag_rules.specs.Replica.{Kept}
use Rattle.ag_rules.specs.Group.{no_disk}
use Rattle.ag_rules.specs.Plan.{Batch, Write, Block_write, Master_write, Note_write, Repaired_write, Page_write, written}
use Rattle.ag_writes.specs.declared.order.Order.{Order}
use Rattle.ag_writes.specs.declared.writes.Write.{Write as WriteData}
use Rattle.ag_writes.specs.Performing.{Progress, Reached, Through, StoppedIn, FailedAfter}
use Rattle.ag_writes.specs.Writes.{write_of, batch_of}
use Rattle.ag_writes_t.specs.declared.home.Ended.{Ended}
use Rattle.ag_writes_t.specs.declared.home.Ended.TheVariants.{No, Stopped, Failed}

-- an empty disk with these writes
abbrev pub standing : List WriteData → Kept
standing rows = fold written no_disk (batch_of rows)

-- an event that goes on
abbrev pub progress_by : Order → List WriteData → ℕ → ℕ → Progress
progress_by order rows steps writes = record { order = order; kept = standing rows; steps = steps; writes = writes; named = [] }

-- what came of the event
abbrev pub reached_by : Ended → Order → List WriteData → ℕ → ℕ → Reached
reached_by No order rows steps writes = Through (progress_by order rows steps writes)
reached_by (Stopped write step) order rows steps writes = StoppedIn write step [] (standing rows)
reached_by (Failed step) order rows steps writes = FailedAfter step (standing rows)

-- whether a write is one of a suspect row
abbrev pub is_row : Write → Bool
is_row (Note_write page kind) = true
is_row (Repaired_write page) = true
is_row (Block_write new) = false
is_row (Master_write master log_end) = false
is_row (Page_write page) = false

abbrev pub IsRow : Write → Type 0
IsRow w = IsTrue (is_row w)

-- the same of data
abbrev pub IsRowData : WriteData → Type 0
IsRowData w = IsRow (write_of w)

-- whether all writes of these batches are of suspect rows
abbrev pub are_rows : List Batch → Bool
are_rows batches = list_all (list_all is_row) batches

-- what the home can write after so many steps and writes: suspect rows, and not too many
abbrev pub HasRoom : ℕ → ℕ → Batch → Type 0
HasRoom steps writes batch = AllByRecursion IsRow batch × (steps + length batch < 2 ^ 32) × (writes + length batch < 2 ^ 32)

-- the same of an event that has come so far; after an end nothing is written
abbrev pub CanTake : Reached → Batch → Type 0
CanTake (Through p) batch = HasRoom p.steps p.writes batch
CanTake (StoppedIn write steps named k) batch = Unit {0}
CanTake (FailedAfter steps k) batch = Unit {0}
