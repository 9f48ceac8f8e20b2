-- What a disk reads, and what a crash may leave in its sectors.
use Rattle.std.specs.Prelude.{◌≡◌, ◌⊎◌, ◌≤◌, ℕ, suc, List, [], ◌∷◌, replicate, Option, Some, None, Bool, IsTrue, ◌==◌, if◌then◌else◌, Result, IsErrOf}
use Rattle.ag_outside.specs.declared.disk.SectorWrite.{SectorWrite}
use Rattle.ag_outside.specs.declared.disk.DiskError.{DiskError}
use Rattle.ag_outside.specs.declared.disk.DiskError.TheVariants.{Failed}
use Rattle.ag_outside.specs.Counts.{HasRisen}

-- the bytes of a sector, or `None` where it is lost
abbrev pub Content : Type 0
Content = Option (List ℕ)

-- the bytes of a sector, where a lost one, or one that was never written, counts as zeros
abbrev pub or_zeros : Content → List ℕ
or_zeros (Some bytes) = bytes
or_zeros None = replicate 512 0

-- what each sector has
abbrev pub Image : Type 0
Image = ℕ → Content

-- sectors written one after the other, from this place on
abbrev pub writes : ℕ → List (List ℕ) → List SectorWrite
writes at [] = []
writes at (sector ∷ sectors) = record { at = at; sector = sector } ∷ writes (suc at) sectors

-- the image once a sector is written
abbrev pub put : Image → SectorWrite → Image
put image w at = if at == w.at then Some w.sector else image at

-- the image once these are written in turn
abbrev pub put_all : Image → List SectorWrite → Image
put_all image [] = image
put_all image (w ∷ ws) = put_all (put image w) ws

-- one of these writes gave the sector at this place this content
abbrev pub WroteSo : List SectorWrite → ℕ → Content → Type 0
WroteSo [] at content = ⊥
WroteSo (w ∷ ws) at content = ((at ≡ w.at) × (content ≡ Some w.sector)) ⊎ WroteSo ws at content

-- the sectors of these writes may hold now what was written, or what they might have held before; all others the latter
abbrev pub MayAdd : List SectorWrite → (ℕ → Content → Type 0) → (ℕ → Content → Type 0) → Type 0
MayAdd ws old new = (at : ℕ) (content : Content) → new at content → old at content ⊎ WroteSo ws at content

-- each sector may hold what it might have held before, and nothing else
abbrev pub SameImages : (ℕ → Content → Type 0) → (ℕ → Content → Type 0) → Type 0
SameImages old new = (at : ℕ) (content : Content) → (new at content → old at content) × (old at content → new at content)

-- a crash leaves this image and no other
abbrev pub Only : Image → (ℕ → Content → Type 0) → Type 0
Only image may_hold = (at : ℕ) (content : Content) → may_hold at content → content ≡ image at

-- a crash may leave this image: each sector has what it may hold
abbrev pub IsImage : (ℕ → Content → Type 0) → Image → Type 0
IsImage may_hold image = (at : ℕ) → may_hold at (image at)

-- Time goes on: a crash since t might have left what it might have left before, or what it may leave now.
-- Where no record is kept, what it might have left before may be forgotten.
pub record Elapses (traced : Bool) (before now : ℕ) (past since : ℕ → Image → Type 0) (may_hold : ℕ → Content → Type 0) : Type 0 where
  pub later : before ≤ now
  pub nothing_else : (t : ℕ) (image : Image) → t ≤ before → since t image → past t image ⊎ IsImage may_hold image
  pub kept : IsTrue traced → (t : ℕ) (image : Image) → t ≤ before → past t image → since t image

-- `Failed` comes only where the count has risen, and no count falls
pub record HasCause {T : Type 0} (before now : ℕ) (result : Result T DiskError) : Type 0 where
  pub later : before ≤ now
  pub failed : IsErrOf result Failed → HasRisen before now
