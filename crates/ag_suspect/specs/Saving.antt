-- What a crash leaves while one sector is written.
use Rattle.std.specs.Prelude.{◌≡◌, ◌⊎◌, ℕ, Some}
use Rattle.ag_outside.specs.declared.disk.SectorWrite.{SectorWrite}
use Rattle.ag_outside.specs.Disks.{Content, Image}

-- an image that has in the sector what is written or what might have been there, and in each other sector what might have been there
abbrev pub IsOldOrNew : (ℕ → Content → Type 0) → SectorWrite → Image → Type 0
IsOldOrNew may_hold w image = (at : ℕ) → may_hold at (image at) ⊎ (at ≡ w.at) × (image at ≡ Some w.sector)
