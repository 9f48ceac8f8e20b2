-- What is seen of a store.
use Rattle.std.specs.Prelude.{ℕ, ◌+◌, List, [], ◌∷◌, length, map, replicate, Bool, false, true, if◌then◌else◌, Option, Some, None, is_some}
use Rattle.ag_model.specs.declared.answer.Cell.{Cell}
use Rattle.ag_model.specs.declared.answer.Cell.TheVariants.{Mark}
use Rattle.ag_model.specs.Cells.{written_cells}
use Rattle.ag_model.specs.declared.record.Record.{Record}
use Rattle.ag_model.specs.Rows.{page_numbers}
use Rattle.ag_outside.specs.Disks.{Image}
use Rattle.ag_logstore.specs.Stores.{StoreView as LogView}
use Rattle.ag_pagestore.specs.Places.{page_cells}
use Rattle.ag_rules.specs.Replica.{least}
use Rattle.ag_kept.specs.Kept.{Kept, kept_on, opening_kept, hardened, forgotten, started}
use Rattle.ag_kept.specs.declared.reach.Reach.{Reach}
use Rattle.ag_kept.specs.declared.reach.Reach.TheVariants.{End, Stop, Fault}
use Rattle.ag_pages.specs.Views.{PagesView, is_dirty}
use Rattle.ag_store.specs.Images.{is_touched_between}

-- what memory has of a replica that is up: its log, its pages, and the redo start in its master
pub record MemoryView : Type 0 where
  pub log : LogView
  pub pages : PagesView
  pub redo : ℕ

-- What is seen of a store: the log and the master on its disk, how many data pages there are, the cells of each page's image,
-- to which LSN each stripe was redone, which pages memory has changed since their images were written; whether no fault has
-- come, and how often the disk has failed. Where it is down, the stripes stand at the redo start and no page is dirty.
pub record StoreView : Type 0 where
  pub kept : Kept
  pub pages : ℕ
  pub cells : List (List Cell)
  pub applied : List ℕ
  pub dirty : List Bool
  pub sound : Bool
  pub faults : ℕ

-- the cells of so many pages' images
abbrev pub cells_on : Image → ℕ → List (List Cell)
cells_on image pages = map (page_cells image) (page_numbers pages)

-- to which LSN each stripe was redone
abbrev pub applied_in : ℕ → Option MemoryView → List ℕ
applied_in redo None = replicate 16 redo
applied_in redo (Some m) = m.pages.applied

-- which of so many pages are dirty
abbrev pub dirty_in : ℕ → Option MemoryView → List Bool
dirty_in pages None = replicate pages false
dirty_in pages (Some m) = map (is_dirty m.pages) (page_numbers pages)

-- a store over an image, with what memory has
abbrev pub store_on : Image → ℕ → Option MemoryView → Bool → ℕ → StoreView
store_on image pages memory sound faults = record {
  kept = kept_on image (is_some memory);
  pages = pages;
  cells = cells_on image pages;
  applied = applied_in (kept_on image (is_some memory)).redo memory;
  dirty = dirty_in pages memory;
  sound = sound;
  faults = faults;
}

-- the replica of this number as a group opens, with so many data pages
abbrev pub opening_store : ℕ → ℕ → ℕ → StoreView
opening_store pages replica faults = record {
  kept = opening_kept pages replica;
  pages = pages;
  cells = replicate pages (replicate 16 (Mark 0));
  applied = replicate 16 1;
  dirty = replicate pages false;
  sound = true;
  faults = faults;
}

-- memory is lost
abbrev pub fallen_store : StoreView → StoreView
fallen_store s = record s { kept = forgotten s.kept; applied = replicate 16 s.kept.redo; dirty = replicate s.pages false }

-- once a block was written so far
abbrev pub hardened_store : StoreView → List Record → Reach → StoreView
hardened_store s new End = record s { kept = hardened s.kept new End }
hardened_store s new (Stop whole) = fallen_store (record s { kept = hardened s.kept new (Stop whole) })
hardened_store s new Fault = fallen_store s

-- the flags, set where a page passes the test; the first flag is of this page
abbrev pub set_where : (ℕ → Bool) → ℕ → List Bool → List Bool
set_where test page [] = []
set_where test page (d ∷ ds) = (if test page then true else d) ∷ set_where test (page + 1) ds

-- all records after the redo start are redone: each stripe stands at the end of the log, and the pages are dirty that one of them touches
abbrev pub caught_up : StoreView → StoreView
caught_up s = record s {
  applied = replicate 16 (length s.kept.log.records);
  dirty = set_where (λ page. is_touched_between s.pages s.kept.log.records page s.kept.redo (length s.kept.log.records)) 16 (replicate s.pages false);
}

-- once a start came so far
abbrev pub started_store : StoreView → Reach → StoreView
started_store s End = caught_up (record s { kept = started s.kept End })
started_store s (Stop whole) = record s { kept = started s.kept (Stop whole) }
started_store s Fault = s

-- the cells once each dirty page was written
abbrev pub flushed_cells : List Bool → List (List Cell) → List (List Cell)
flushed_cells dirty [] = []
flushed_cells [] (c ∷ cs) = c ∷ cs
flushed_cells (d ∷ ds) (c ∷ cs) = (if d then written_cells c else c) ∷ flushed_cells ds cs

-- once the dirty pages were written, and the master with the least LSN to which a stripe was redone
abbrev pub flushed_store : StoreView → StoreView
flushed_store s = record s {
  kept = record s.kept { redo = least s.applied };
  cells = flushed_cells s.dirty s.cells;
  dirty = replicate s.pages false;
}
