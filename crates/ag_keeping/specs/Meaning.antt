-- What pieces written on a disk mean for what a replica keeps.
use Rattle.std.specs.Prelude.{◌≡◌, ℕ, ◌+◌, ◌<◌, List, length, take}
use Rattle.ag_outside.specs.Calls.{Piece}
use Rattle.ag_outside.specs.Disks.{Image, put_all}
use Rattle.ag_outside.specs.Scripts.{kept}
use Rattle.ag_pieces.specs.Pieces.{sectors_in}
use Rattle.ag_rules.specs.Replica.{Kept}
use Rattle.ag_rules.specs.Plan.{Batch, batch_written}
use Rattle.ag_rules.specs.Cut.{batch_partly_written}
use Rattle.ag_keeping.specs.Keeping.{kept_on, IsKeeping}

-- the image is that of this replica, and keeps this
pub record Says (pages replica : ℕ) (image : Image) (k : Kept) : Type 0 where
  pub keeping : IsKeeping pages replica image
  pub kept : kept_on pages image ≡ k

-- On this image the pieces are the writes of the batch, one each: written whole they leave what the batch leaves,
-- and stopped in any write, with any mask, what a stop leaves of the batch.
pub record Mean (pages replica : ℕ) (image : Image) (pieces : List Piece) (batch : Batch) : Type 0 where
  pub count : length pieces ≡ length batch
  pub whole : Says pages replica (put_all image (sectors_in pieces)) (batch_written (kept_on pages image) batch)
  pub stopped : (w mask : ℕ) → w < length pieces
      → Says pages replica (put_all image (kept mask 0 (sectors_in (take (w + 1) pieces)))) (batch_partly_written mask 0 (kept_on pages image) (take (w + 1) batch))
