-- What a crash may leave of a batch.
use Rattle.std.specs.Prelude.{◌≡◌, ◌⊎◌, ℕ, List, take, false}
use Rattle.std.specs.List.{AllByRecursion}
use Rattle.ag_outside.specs.Disks.{Content, Image, WroteSo}
use Rattle.ag_model.specs.Cells.{is_sound}
use Rattle.ag_page.specs.Home.{written_over}
use Rattle.ag_pagestore.specs.declared.batch.PageWrite.{PageWrite}
use Rattle.ag_pagestore.specs.Places.{image_of, page_cells, IsOutside}
use Rattle.ag_pagestore.specs.Batches.{IsWhole, written}

-- Some of the pages were begun: each sector has what it might have held before, or what is written there for one of these.
pub record IsPartOf (may_hold : ℕ → Content → Type 0) (old : Image) (batch : List PageWrite) (image : Image) : Type 0 where
  pub begun : ℕ
  pub whole : AllByRecursion IsWhole (take begun batch)
  pub each : (at : ℕ) → may_hold at (image at) ⊎ WroteSo (written old (take begun batch)) at (image at)

-- the page has its old image, or the new one, or one that isn't sound
abbrev pub IsOldNewOrUnsound : Image → Image → PageWrite → Type 0
IsOldNewOrUnsound old image w =
    (image_of image w.page ≡ image_of old w.page) ⊎ (image_of image w.page ≡ written_over (image_of old w.page) w.image) ⊎ (is_sound (page_cells image w.page) ≡ false)

-- this of each page of the batch, and each other sector has what it had
pub record IsOldOrNew (old : Image) (batch : List PageWrite) (image : Image) : Type 0 where
  pub pages : AllByRecursion (IsOldNewOrUnsound old image) batch
  pub others : (at : ℕ) → AllByRecursion (λ w. IsOutside w.page at) batch → image at ≡ old at
