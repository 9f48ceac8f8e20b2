-- The cells that a stop in a batch leaves.
use Rattle.std.specs.Prelude.{◌≡◌, ℕ, ◌+◌, List, [], ◌∷◌}
use Rattle.ag_model.specs.Cells.{mark_after, kept_cells}
use Rattle.ag_outside.specs.Disks.{Image}
use Rattle.ag_pagestore.specs.declared.batch.PageWrite.{PageWrite}
use Rattle.ag_pagestore.specs.Places.{page_cells}

-- in each page the cells are new where the mask keeps the sector; the first sector of the first page has the number `from`
abbrev pub AreKept : Image → Image → ℕ → ℕ → List PageWrite → Type 0
AreKept old new mask from [] = Unit {0}
AreKept old new mask from (w ∷ ws) = (page_cells new w.page ≡ kept_cells mask from (mark_after (page_cells old w.page)) (page_cells old w.page)) × AreKept old new mask (from + 16) ws
