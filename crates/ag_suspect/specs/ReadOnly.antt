-- A disk that is read.
use Rattle.std.specs.Prelude.{◌≡◌, ◌≤◌, ℕ, List, Bool}
use Rattle.ag_outside.specs.Disks.{Content, Image, SameImages, IsImage}
use Rattle.ag_outside.specs.Calls.{Call, Leads, IsReadOnly, FailsAtRead}
use Rattle.ag_outside.specs.Moments.{LeavesOnly}

-- the disk was read and nothing else, and a crash leaves what it might have left before
pub record OnlyReads {D : Type 0} (size : D → ℕ) (keeps : D → Bool) (reads : D → Image) (may_hold : D → ℕ → Content → Type 0) (moment : D → ℕ) (left_since : D → ℕ → Image → Type 0) (faults : D → ℕ)
    (did : D → Call → D → Type 0) (old new : D) : Type 0 where
  pub size_same : size new ≡ size old
  pub keeps_same : keeps new ≡ keeps old
  pub reads_same : reads new ≡ reads old
  pub images : SameImages (may_hold old) (may_hold new)
  pub moments : LeavesOnly moment left_since old new (IsImage (may_hold old))
  pub later : faults old ≤ faults new
  pub calls : IsReadOnly did old new

-- a read failed, and no call came after it
pub record FailsReading {D : Type 0} (did : D → Call → D → Type 0) (old new : D) : Type 0 where
  pub calls : List Call
  pub leads : Leads did old calls new
  pub fails : FailsAtRead calls
