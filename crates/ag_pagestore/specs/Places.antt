-- Where the image of a page stands on a disk, and what is read there.
use Rattle.std.specs.Prelude.{ℕ, ◌+◌, ◌*◌, ◌≤◌, ◌<◌, ◌⊎◌, List, map}
use Rattle.std.specs.List.{range_with_len}
use Rattle.ag_model.specs.declared.answer.Cell.{Cell}
use Rattle.ag_outside.specs.Disks.{Content, Image}
use Rattle.ag_page.specs.Home.{cells_of}

-- the pages that have a place
abbrev pub IsPage : ℕ → Type 0
IsPage page = (16 ≤ page) × (page < 2064)

-- the first sector of a page
abbrev pub place : ℕ → ℕ
place page = 64 + 16 * page

-- what the 16 sectors of a page have
unfoldable pub image_of : Image → ℕ → List Content
image_of disk page = map disk (range_with_len (place page) 16)

-- the cells of a page
abbrev pub page_cells : Image → ℕ → List Cell
page_cells disk page = cells_of (image_of disk page)

-- a sector that isn't one of the page's
abbrev pub IsOutside : ℕ → ℕ → Type 0
IsOutside page at = (at < place page) ⊎ (place page + 16 ≤ at)
