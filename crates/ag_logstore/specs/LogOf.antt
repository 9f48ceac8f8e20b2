-- The log of an image.
use Rattle.std.specs.Prelude.{◌≡◌, ℕ, ◌≤◌, List, length}
use Rattle.ag_model.specs.declared.record.Log.{Log}
use Rattle.ag_outside.specs.Disks.{Image}
use Rattle.ag_logstore.specs.Stored.{Stored, AreStored, first_place, log_of_blocks}

-- the log of the longest list of blocks that stand one after the other from the first sector of the log
pub record IsLogOf (image : Image) (cut incarnation : ℕ) (log : Log) : Type 0 where
  pub blocks : List Stored
  pub stand : AreStored image cut incarnation first_place blocks
  pub longest : (others : List Stored) → AreStored image cut incarnation first_place others → length others ≤ length blocks
  pub is : log ≡ log_of_blocks blocks
