-- What a page store leaves of its disk.
use Rattle.std.specs.Prelude.{◌≡◌, ◌⊎◌, ◌&&◌, ℕ, List, [], ◌∷◌, Bool, true, false, IsTrue, nat_le, nat_lt, Option, Some, None, if◌then◌else◌}
use Rattle.ag_outside.specs.Calls.{Call, IsReadOnly, TakesAll, FailsOnTheWay}
use Rattle.ag_outside.specs.Counts.{HasRisen}
use Rattle.ag_outside.specs.Disks.{Content, Image, SameImages, Only}
use Rattle.ag_outside.specs.Moments.{LeavesOnly}
use Rattle.ag_page.specs.Home.{PutBack}
use Rattle.ag_pagestore.specs.declared.batch.PageWrite.{PageWrite}
use Rattle.ag_pagestore.specs.Places.{image_of}
use Rattle.ag_pagestore.specs.Batches.{IsWritten, pieces}
use Rattle.ag_pagestore.specs.Moments.{IsOldOrNew}

-- whether a disk of so many sectors has a place for a page
abbrev pub has_place : ℕ → ℕ → Bool
has_place size page = nat_le 33088 size && nat_le 16 page && nat_lt page 2064

-- the images of a disk's pages, where it keeps to the model
abbrev pub told_images : Bool → Image → Option (ℕ → List Content)
told_images keeps disk = if keeps then Some (image_of disk) else None

-- a disk, and how often the store over it was refused memory
pub record Held (D : Type 0) : Type 0 where
  pub disk : D
  pub refusals : ℕ

-- a writing as a batch of one page
abbrev pub one_page : PutBack → List PageWrite
one_page w = record { page = w.page; image = w.image } ∷ []

-- the disk was read, and nothing else
pub record Untouched {D : Type 0} (size : D → ℕ) (keeps : D → Bool) (reads : D → Image) (may_hold : D → ℕ → Content → Type 0) (did : D → Call → D → Type 0) (old new : Held D) : Type 0 where
  pub content : reads new.disk ≡ reads old.disk
  pub images : SameImages (may_hold old.disk) (may_hold new.disk)
  pub keeping : keeps new.disk ≡ keeps old.disk
  pub sectors : size new.disk ≡ size old.disk
  pub calls : IsReadOnly did old.disk new.disk

-- the disk took a batch of one page, or refused it
pub record Took {D : Type 0} (size : D → ℕ) (keeps : D → Bool) (reads : D → Image) (may_hold : D → ℕ → Content → Type 0) (did : D → Call → D → Type 0)
    (moment : D → ℕ) (left_since : D → ℕ → Image → Type 0) (old : Held D) (w : PutBack) (new : Held D) : Type 0 where
  pub keeping : keeps new.disk ≡ keeps old.disk
  pub sectors : size new.disk ≡ size old.disk
  pub written : w.refused ≡ false → IsTrue (keeps old.disk) → IsWritten (reads old.disk) (one_page w) (reads new.disk)
  pub durable : w.refused ≡ false → IsTrue (keeps old.disk) → Only (reads new.disk) (may_hold new.disk)
  pub calls : w.refused ≡ false → IsTrue (keeps old.disk) → TakesAll did old.disk (pieces (reads old.disk) (one_page w)) new.disk
  pub broken : w.refused ≡ true → IsTrue (keeps old.disk) → FailsOnTheWay did old.disk (pieces (reads old.disk) (one_page w)) new.disk ⊎ HasRisen old.refusals new.refusals
  -- where nothing was unsynced
  pub content : IsTrue (keeps old.disk) → Only (reads old.disk) (may_hold old.disk) → IsOldOrNew (reads old.disk) (one_page w) (reads new.disk)
  pub any_moment : Only (reads old.disk) (may_hold old.disk) → LeavesOnly moment left_since old.disk new.disk (IsOldOrNew (reads old.disk) (one_page w))

-- of these at most the last was refused
abbrev pub LastMayBeRefused : List PutBack → Type 0
LastMayBeRefused [] = Unit {0}
LastMayBeRefused (w ∷ []) = Unit {0}
LastMayBeRefused (w ∷ ws) = (w.refused ≡ false) × LastMayBeRefused ws

-- these writings in turn, with nothing but reads between them
abbrev pub Leaves : {D : Type 0} → (D → ℕ) → (D → Bool) → (D → Image) → (D → ℕ → Content → Type 0) → (D → Call → D → Type 0)
    → (D → ℕ) → (D → ℕ → Image → Type 0) → Held D → List PutBack → Held D → Type 0
Leaves size keeps reads may_hold did moment left_since old [] new = Untouched size keeps reads may_hold did old new
Leaves {D = D} size keeps reads may_hold did moment left_since old (w ∷ ws) new =
    (before : Held D) × (after : Held D) × Untouched size keeps reads may_hold did old before × Took size keeps reads may_hold did moment left_since before w after
    × Leaves size keeps reads may_hold did moment left_since after ws new
