-- What a replica keeps on its disk, read off the disk's image.
use Rattle.std.specs.Prelude.{◌≡◌, ℕ, ◌+◌, ◌≤◌, List, map, length, false}
use Rattle.ag_model.specs.declared.record.Record.{Record}
use Rattle.ag_model.specs.declared.answer.Cell.{Cell}
use Rattle.ag_model.specs.Rows.{page_numbers}
use Rattle.ag_outside.specs.Disks.{Image, or_zeros}
use Rattle.ag_master.specs.declared.master.Master.{Master as SectorMaster}
use Rattle.ag_master.specs.Spelling.{spelling, HasSpelling}
use Rattle.ag_logstore.specs.Stored.{Stored}
use Rattle.ag_logstore.specs.Stores.{StoreView}
use Rattle.ag_kept.specs.Kept.{master_on}
use Rattle.ag_kept.specs.Standing.{HasLog}
use Rattle.ag_kept.specs.Starting.{own_log}
use Rattle.ag_pagestore.specs.Places.{page_cells}
use Rattle.ag_suspect.specs.Rows.{suspects_on, HasRows}
use Rattle.ag_rules.specs.Replica.{Kept, Master}

-- what the rules see of the master's sector
abbrev pub rules_master : SectorMaster → Master
rules_master m = record { term = m.term; state = m.state; incarnation = m.incarnation; redo_start = m.redo; undo = m.undo; foreign = m.foreign }

-- the cells of the images of so many data pages
abbrev pub cells_on : ℕ → Image → List (List Cell)
cells_on pages image = map (page_cells image) (page_numbers pages)

-- what an image keeps of a replica with so many data pages
abbrev pub kept_on : ℕ → Image → Kept
kept_on pages image = record { log = own_log image; master = rules_master (master_on image); suspects = suspects_on image; images = cells_on pages image }

-- the image is that of the replica with this number and so many data pages
pub record IsKeeping (pages replica : ℕ) (image : Image) : Type 0 where
  pub few : pages ≤ 2048
  pub fits : HasSpelling (master_on image)
  pub spelled : or_zeros (image 0) ≡ spelling (master_on image)
  pub pages_named : (master_on image).pages ≡ pages
  pub replica_named : (master_on image).replica ≡ replica
  pub least : 1 ≤ (master_on image).incarnation
  pub log : HasLog image (master_on image).cut (master_on image).incarnation (own_log image)
  pub suspects : HasRows image (suspects_on image)

-- the store of an image's log
abbrev pub store_on : Image → StoreView
store_on image = record { log = own_log image; cut = (master_on image).cut; incarnation = (master_on image).incarnation; is_closed = false }

-- a block of this term after the log of an image
abbrev pub next_block : Image → ℕ → List Record → Stored
next_block image term new = record { head = record { term = term; incarnation = (master_on image).incarnation; first = length (own_log image).records + 1 }; records = new }
