-- A replica's data at the beginning of an event.
use Rattle.std.specs.Prelude.{◌≡◌, ◌≤◌, ◌<◌, ◌+◌, ◌^◌, ℕ, max, [], IsTrue, Bool}
use Rattle.ag_model.specs.declared.event.Suffix.{Suffix}
use Rattle.ag_model.specs.declared.event.Suffix.TheVariants.{Whole, Stop as StopAt, Fail as FailAt}
use Rattle.ag_outside.specs.declared.order.Arm.{Arm}
use Rattle.ag_outside.specs.declared.order.Arm.TheVariants.{Free as FreeArm, Stop as StopArm, Fail as FailArm}
use Rattle.ag_outside.specs.Disks.{Image}
use Rattle.ag_outside.specs.Scripts.{ScriptedView}
use Rattle.ag_outside.specs.Shown.{reads_of}
use Rattle.ag_logstore.specs.Stored.{log_end}
use Rattle.ag_kept.specs.Kept.{master_on}
use Rattle.ag_rules.specs.Replica.{Kept}
use Rattle.ag_writes.specs.Performing.{Reached, Through}
use Rattle.ag_writes.specs.declared.order.Order.{Order}
use Rattle.ag_writes.specs.declared.order.Order.TheVariants.{Free, StopAt as StopsAt, FailAt as FailsAt}
use Rattle.ag_keeping.specs.Keeping.{IsKeeping}

-- the disk can be loaded: there is room, it keeps to its model, has nothing unsynced, and is that of a replica
pub record CanLoad {D : Type 0} (size : D → ℕ) (keeps : D → Bool) (reads : D → Image) (disk : ScriptedView D) : Type 0 where
  pub room : log_end ≤ size disk.disk
  pub modelled : IsTrue (keeps disk.disk)
  pub unsynced : disk.unsynced ≡ []
  pub keeping : IsKeeping (master_on (reads_of reads disk)).pages (master_on (reads_of reads disk)).replica (reads_of reads disk)

-- an event that has written nothing, without an order, where this is kept
abbrev pub at_first : Kept → Reached
at_first k = Through (record { order = Free; kept = k; steps = 0; writes = 0; named = [] })

-- what is to be ordered of a disk whose counts begin anew, so that this is still ordered of the event
abbrev pub rest_of : Order → Arm
rest_of Free = FreeArm
rest_of (StopsAt w mask) = StopArm (w + 1) mask
rest_of (FailsAt c) = FailArm (c + 1)

-- its place, counted from 1, has 32 bits
abbrev pub HasPlace : Order → Type 0
HasPlace Free = Unit {0}
HasPlace (StopsAt w mask) = w + 1 < 2 ^ 32
HasPlace (FailsAt c) = c + 1 < 2 ^ 32

-- what a suffix orders of a disk, where writes and calls count from 1
abbrev pub arm_of : Suffix → Arm
arm_of Whole = FreeArm
arm_of (StopAt w mask) = StopArm (max w 1) mask
arm_of (FailAt c) = FailArm (max c 1)
