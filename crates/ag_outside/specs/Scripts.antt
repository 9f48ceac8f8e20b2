-- A disk that follows an order over another one, and what it keeps back until a sync.
use Rattle.std.specs.Prelude.{◌≡◌, ◌⊎◌, ◌/◌, ◌%◌, ◌^◌, ◌<◌, ℕ, zero, suc, List, [], ◌∷◌, ◌++◌, replicate, Option, Some, None, is_some, Bool, IsTrue, nat_eq, ◌==◌, if◌then◌else◌}
use Rattle.std.specs.Bool.{MatchBool}
use Rattle.std.specs.List.{AllByRecursion}
use Rattle.std.specs.Map.{lookup}
use Rattle.ag_outside.specs.declared.disk.SectorWrite.{SectorWrite}
use Rattle.ag_outside.specs.declared.order.Arm.{Arm}
use Rattle.ag_outside.specs.declared.order.Why.{Why}
use Rattle.ag_outside.specs.Disks.{Content, Image, put_all, WroteSo}

-- what is seen of a scripted disk: the disk below, what isn't handed down yet in order of writing, the lost sectors with
-- the marks that they were written with, the order, how many writes, and writes and syncs, there were since it was given,
-- whether it was reached, how often the disk failed, and whether each write and sync of the disk below went well
pub record ScriptedView (D : Type 0) : Type 0 where
  pub disk : D
  pub unsynced : List SectorWrite
  pub lost : List (ℕ × ℕ)
  pub order : Arm
  pub writes : ℕ
  pub calls : ℕ
  pub why : Why
  pub faults : ℕ
  pub intact : Bool

-- whether a sector is lost
abbrev pub is_lost : List (ℕ × ℕ) → ℕ → Bool
is_lost lost at = is_some (lookup (nat_eq at) lost)

-- the image with the lost sectors
abbrev pub overlay : List (ℕ × ℕ) → Image → Image
overlay lost image at = if is_lost lost at then None else image at

-- what is read: the newest bytes that were written, or else what is below
abbrev pub shown : Image → List (ℕ × ℕ) → List SectorWrite → Image
shown image lost unsynced = put_all (overlay lost image) unsynced

-- what a sector may hold: what it may hold below, or nothing where it is lost, or what was written to it since the last sync
abbrev pub may_show : Bool → (ℕ → Content → Type 0) → List (ℕ × ℕ) → List SectorWrite → ℕ → Content → Type 0
may_show keeps may_hold lost unsynced at content =
    IsTrue keeps × (MatchBool (is_lost lost at) (content ≡ None) (may_hold at content) ⊎ WroteSo unsynced at content)

-- whether a mask keeps the unsynced sector of this number, counted from 0
abbrev pub is_kept : ℕ → ℕ → Bool
is_kept mask number = (mask / 2 ^ (number % 64)) % 2 == 1

-- those that a mask keeps, of which the first has this number
abbrev pub kept : ℕ → ℕ → List SectorWrite → List SectorWrite
kept mask number [] = []
kept mask number (w ∷ ws) = if is_kept mask number then w ∷ kept mask (suc number) ws else kept mask (suc number) ws

-- each is written within so many sectors
abbrev pub InRange : ℕ → List SectorWrite → Type 0
InRange size ws = AllByRecursion (λ w. w.at < size) ws

-- the sector that stands below in place of a lost one
abbrev pub filler : ℕ → List ℕ
filler mark = replicate 511 238 ++ mark ∷ []

-- the mark of a lost sector, unless it is written here
abbrev pub unless_written : List SectorWrite → ℕ → Option ℕ → Option ℕ
unless_written [] at mark = mark
unless_written (w ∷ ws) at mark = unless_written ws at (if at == w.at then None else mark)

-- so many of them, with rising marks
abbrev pub fillers : ℕ → ℕ → ℕ → List SectorWrite
fillers at mark zero = []
fillers at mark (suc n) = record { at = at; sector = filler mark } ∷ fillers (suc at) (suc mark) n

-- the image with so many sectors lost from this place on
abbrev pub with_lost : ℕ → ℕ → Image → Image
with_lost first zero image = image
with_lost first (suc n) image = with_lost (suc first) n (λ at. if at == first then None else image at)

-- the mark of a sector once so many are lost from this place on, with rising marks
abbrev pub marked : ℕ → ℕ → ℕ → ℕ → Option ℕ → Option ℕ
marked first mark zero at was = was
marked first mark (suc n) at was = marked (suc first) (suc mark) n at (if at == first then Some mark else was)

-- below, each lost sector reads as it was written over
abbrev pub LostAsWritten : Image → List (ℕ × ℕ) → Type 0
LostAsWritten image lost = (at mark : ℕ) → lookup (nat_eq at) lost ≡ Some mark → image at ≡ Some (filler mark)
