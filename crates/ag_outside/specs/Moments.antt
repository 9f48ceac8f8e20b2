-- The moments of a run of calls.
use Rattle.std.specs.Prelude.{◌≤◌, ◌⊎◌, ℕ}
use Rattle.ag_outside.specs.Disks.{Image}

-- A crash at any moment since `old` leaves an image that has P. Without a record this is the moment at the end alone.
pub record LeavesOnly {D : Type 0} (moment : D → ℕ) (left_since : D → ℕ → Image → Type 0) (old new : D) (P : Image → Type 0) : Type 0 where
  pub later : moment old ≤ moment new
  pub each : (image : Image) → left_since new (moment old) image → P image
  -- for a run that began earlier
  pub before : (t : ℕ) (image : Image) → t ≤ moment old → left_since new t image → left_since old t image ⊎ P image
