-- What holds of a replica's data and of its disk.
use Rattle.std.specs.Prelude.{◌≡◌, ℕ, ◌≤◌, [], Bool, true, IsTrue}
use Rattle.ag_outside.specs.Disks.{Content, Image, Only}
use Rattle.ag_outside.specs.Shown.{reads_of, holds_of}
use Rattle.ag_logstore.specs.Stored.{log_end}
use Rattle.ag_logstore.specs.Stores.{IsCurrent}
use Rattle.ag_kept.specs.Kept.{master_on}
use Rattle.ag_pieces.specs.Pieces.{order_left, IsAhead}
use Rattle.ag_suspect.specs.Rows.{suspects_on}
use Rattle.ag_keeping.specs.Keeping.{IsKeeping, store_on}
use Rattle.ag_durable.specs.declared.progress.Came.{Came}
use Rattle.ag_durable.specs.declared.progress.Came.TheVariants.{Underway, Stopped, Failed, Unknown}
use Rattle.ag_durable.specs.Views.{DurableView}

-- the disk keeps to its model, has nothing unsynced, and is that of the replica
pub record IsAtRest {D : Type 0} (keeps : D → Bool) (reads : D → Image) (v : DurableView D) : Type 0 where
  pub modelled : IsTrue (keeps v.disk.disk)
  pub unsynced : v.disk.unsynced ≡ []
  pub keeping : IsKeeping v.master.pages v.master.replica (reads_of reads v.disk)

-- more can be written: memory has what the disk keeps, and the order of the disk is what is still ordered of the event
pub record GoesOn {D : Type 0} (keeps : D → Bool) (reads : D → Image) (may_hold : D → ℕ → Content → Type 0) (v : DurableView D) : Type 0 where
  pub rest : IsAtRest keeps reads v
  pub synced : Only (reads_of reads v.disk) (holds_of keeps may_hold v.disk)
  pub master : master_on (reads_of reads v.disk) ≡ v.master
  pub suspects : suspects_on (reads_of reads v.disk) ≡ v.suspects
  pub log : store_on (reads_of reads v.disk) ≡ v.log
  pub current : v.appends ≡ true → IsCurrent (reads_of reads v.disk) v.log
  pub ahead : IsAhead v.disk.order v.disk.writes v.disk.calls
  pub ordered : v.progress.order ≡ order_left v.disk.order v.disk.writes v.disk.calls

-- what holds once the event came so far
abbrev pub HoldsAt : {D : Type 0} → (D → Bool) → (D → Image) → (D → ℕ → Content → Type 0) → DurableView D → Came → Type 0
HoldsAt keeps reads may_hold v Underway = GoesOn keeps reads may_hold v
HoldsAt keeps reads may_hold v Stopped = IsAtRest keeps reads v
HoldsAt keeps reads may_hold v Failed = IsAtRest keeps reads v
HoldsAt keeps reads may_hold v Unknown = Unit {0}

-- what always holds: there is room, and unless a fault has left the disk open, it is that of the replica
pub record Stands {D : Type 0} (size : D → ℕ) (keeps : D → Bool) (reads : D → Image) (may_hold : D → ℕ → Content → Type 0) (v : DurableView D) : Type 0 where
  pub room : log_end ≤ size v.disk.disk
  pub holds : HoldsAt keeps reads may_hold v v.progress.came
