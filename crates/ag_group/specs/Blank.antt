-- Disks on which a group may open.
use Rattle.std.specs.Prelude.{◌≡◌, ◌≤◌, ℕ, replicate, Some, Bool, IsTrue}
use Rattle.ag_outside.specs.Disks.{Image}
use Rattle.ag_logstore.specs.Stored.{log_end}

-- a disk of zeros that has room for a replica, and tells its sectors, none of which is lost
pub record IsBlankDisk (size : ℕ) (keeps : Bool) (reads : Image) : Type 0 where
  pub room : log_end ≤ size
  pub told : IsTrue keeps
  pub zeros : (at : ℕ) → reads at ≡ Some (replicate 512 0)
