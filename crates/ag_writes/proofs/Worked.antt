-- A worked example: an event with a block, a master and two batches of pages, whole, stopped and failed.
use Rattle.std.proofs.Common.{◌≡◌, ℕ, List, [], ◌∷◌, replicate, refl}
use Rattle.ag_model.specs.declared.record.Record.TheVariants.{Term}
use Rattle.ag_model.specs.declared.answer.Cell.{Cell}
use Rattle.ag_model.specs.declared.answer.Cell.TheVariants.{Mark}
use Rattle.ag_model.specs.declared.event.Suffix.{Suffix}
use Rattle.ag_model.specs.declared.event.Suffix.TheVariants.{Whole, Stop, Fail}
use Rattle.ag_model.specs.Cells.{mark_after}
use Rattle.ag_rules.specs.Replica.{Kept, Master}
use Rattle.ag_rules.specs.Plan.{Batch, Block_write, Master_write, Page_write}
use Rattle.ag_writes.specs.declared.reach.Reach.TheVariants.{End, Stop as StopReach}
use Rattle.ag_writes.specs.Homes.{reach_of}
use Rattle.ag_writes.specs.Performing.{Reached, StoppedIn, FailedAfter, begun, after_batches, disk_of}

-- a master of this term
abbrev master : ℕ → Master
master term = record { term = term; state = 0; incarnation = 1; redo_start = 0; undo = 0; foreign = [] }

-- 16 cells with one mark
abbrev all : ℕ → List Cell
all mark = replicate 16 (Mark mark)

-- a disk with a block of two records, or with none
abbrev with_log : ℕ → List (List Cell) → Kept
with_log term images = record { log = record { records = Term 1 ∷ Term 2 ∷ []; ends = 2 ∷ [] }; master = master term; suspects = []; images = images }

abbrev blank : Kept
blank = record { log = record { records = []; ends = [] }; master = master 0; suspects = []; images = all 1 ∷ all 1 ∷ all 1 ∷ [] }

-- five writes, and nine calls
abbrev writes : List Batch
writes = (Block_write (Term 1 ∷ Term 2 ∷ []) ∷ []) ∷ (Master_write (master 2) 2 ∷ []) ∷ (Page_write 16 ∷ Page_write 17 ∷ []) ∷ (Page_write 18 ∷ []) ∷ []

abbrev left_by : Suffix → Reached
left_by suffix = after_batches (begun suffix blank) writes

whole : disk_of (left_by Whole) ≡ with_log 2 (all 2 ∷ all 2 ∷ all 2 ∷ [])
unfolding mark_after
whole = refl

-- the mask keeps two sectors of the first page and none of the second
stopped : left_by (Stop 4 3) ≡ StoppedIn 4 2 (16 ∷ 17 ∷ []) (with_log 2 ((Mark 2 ∷ Mark 2 ∷ replicate 14 (Mark 1)) ∷ all 1 ∷ all 1 ∷ []))
unfolding mark_after
stopped = refl

-- of the two only the first is torn
stopped_reach : reach_of 3 (left_by (Stop 4 3)) ≡ StopReach 4 2 (16 ∷ [])
unfolding mark_after
stopped_reach = refl

-- a master that the mask doesn't keep isn't a step that stands
stopped_at_master : left_by (Stop 2 2) ≡ StoppedIn 2 1 [] (with_log 0 (all 1 ∷ all 1 ∷ all 1 ∷ []))
stopped_at_master = refl

-- the sync of the block fails, and the block is gone
failed_early : left_by (Fail 2) ≡ FailedAfter 0 blank
failed_early = refl

-- the write of the last page fails, and the pages before it stand
failed_late : left_by (Fail 8) ≡ FailedAfter 2 (with_log 2 (all 2 ∷ all 2 ∷ all 1 ∷ []))
unfolding mark_after
failed_late = refl

-- neither order is reached
late_stop : reach_of 3 (left_by (Stop 6 0)) ≡ End
unfolding mark_after
late_stop = refl

late_fail : reach_of 3 (left_by (Fail 10)) ≡ End
unfolding mark_after
late_fail = refl
