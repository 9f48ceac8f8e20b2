-- A batch of page images, what is written for it, and the disk after it.
use Rattle.std.specs.Prelude.{◌≡◌, ℕ, suc, ◌≤◌, ◌<◌, List, [], ◌∷◌, ◌++◌, length, get_or, map, Ok, Err}
use Rattle.std.specs.List.{flat_map, AllByRecursion}
use Rattle.ag_outside.specs.declared.disk.SectorWrite.{SectorWrite}
use Rattle.ag_outside.specs.Disks.{Image, writes}
use Rattle.ag_outside.specs.Calls.{Call, Write_call, Piece, Leads}
use Rattle.ag_outside.specs.declared.disk.DiskError.TheVariants.{Failed}
use Rattle.ag_model.specs.Cells.{mark_after}
use Rattle.ag_page.specs.Home.{with_mark, written_over}
use Rattle.ag_pagestore.specs.declared.batch.PageWrite.{PageWrite}
use Rattle.ag_pagestore.specs.Places.{place, image_of, page_cells, IsOutside}

-- pages from this number on, each above the one before
abbrev pub RisesFrom : ℕ → List PageWrite → Type 0
RisesFrom low [] = Unit {0}
RisesFrom low (w ∷ ws) = (low ≤ w.page) × (w.page < 2064) × RisesFrom (suc w.page) ws

-- 1 to 8 images of different pages, rising
pub record IsBatch (batch : List PageWrite) : Type 0 where
  pub some : 0 < length batch
  pub few : length batch ≤ 8
  pub rises : RisesFrom 16 batch

-- an image of 16 sectors of 512 bytes
abbrev pub IsWhole : PageWrite → Type 0
IsWhole w = (length w.image ≡ 16) × AllByRecursion (λ s. length s ≡ 512) w.image

-- the image as it is written, with the mark after those that the disk has there
abbrev pub marked : Image → PageWrite → List (List ℕ)
marked disk w = with_mark (mark_after (page_cells disk w.page)) w.image

-- the sectors of one page, which are written in one call
abbrev pub piece : Image → PageWrite → Piece
piece disk w = record { first = place w.page; sectors = marked disk w }

-- a piece for each page
abbrev pub pieces : Image → List PageWrite → List Piece
pieces disk batch = map (piece disk) batch

-- each sector that the batch writes, in order
abbrev pub written : Image → List PageWrite → List SectorWrite
written disk batch = flat_map (λ w. writes (place w.page) (marked disk w)) batch

-- after the batch each of its pages has the new image with the mark after the old one, and each other sector what it had
pub record IsWritten (old : Image) (batch : List PageWrite) (new : Image) : Type 0 where
  pub pages : AllByRecursion (λ w. image_of new w.page ≡ written_over (image_of old w.page) w.image) batch
  pub others : (at : ℕ) → AllByRecursion (λ w. IsOutside w.page at) batch → new at ≡ old at

-- these are the marks of the next writes over the pages, in order
abbrev pub AreNext : Image → List PageWrite → List ℕ → Type 0
AreNext disk batch marks = (k : ℕ) (d : PageWrite) → k < length batch → get_or marks k 0 ≡ mark_after (page_cells disk (get_or batch k d).page)

-- each piece written
abbrev pub went : List Piece → List Call
went pieces = map (λ p. Write_call p.first p.sectors (Ok (record {}))) pieces

-- the disk took some of the pieces and failed at the next
pub record WritesUntilFault {D : Type 0} (did : D → Call → D → Type 0) (old : D) (pieces : List Piece) (new : D) : Type 0 where
  pub before : List Piece
  pub at : Piece
  pub after : List Piece
  pub all : pieces ≡ before ++ at ∷ after
  pub leads : Leads did old (went before ++ Write_call at.first at.sectors (Err Failed) ∷ []) new
