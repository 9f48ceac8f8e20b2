-- What a stop in the write of a block leaves.
use Rattle.std.specs.Prelude.{ℕ, [], ◌∷◌, Bool, false, if◌then◌else◌}
use Rattle.ag_model.specs.declared.record.Record.TheVariants.{Term}
use Rattle.ag_model.specs.declared.record.Log.{Log}
use Rattle.ag_model.specs.Blocks.{with_block}
use Rattle.ag_model.specs.Sizes.{block_sectors}
use Rattle.ag_model.specs.Cells.{keeps_all}
use Rattle.ag_outside.specs.Disks.{Image, writes, put_all}
use Rattle.ag_outside.specs.Scripts.{kept}
use Rattle.ag_logstore.specs.Stored.{Stored, sectors_of, no_log}
use Rattle.ag_logstore.specs.Stores.{StoreView, sector_after}

-- the image once the write of a block after a store's log is stopped: of its sectors those stand that the mask keeps
abbrev pub stopped_image : Image → StoreView → Stored → ℕ → Image
stopped_image image s b mask = put_all image (kept mask 0 (writes (sector_after s.log) (sectors_of b)))

-- the log with a block where all of it was kept, and else the log as before
abbrev pub log_where : Bool → StoreView → Stored → Log
log_where whole s b = if whole then with_block s.log b.records else s.log

-- whether a mask keeps each sector of a block
abbrev pub keeps_block : ℕ → Stored → Bool
keeps_block mask b = keeps_all mask 0 (block_sectors b.records)

-- the block that starts term 1
abbrev pub opening_stored : Stored
opening_stored = record { head = record { term = 1; incarnation = 1; first = 1 }; records = Term 1 ∷ [] }

-- the store of a disk of zeros
abbrev pub blank_store : StoreView
blank_store = record { log = no_log; cut = 0; incarnation = 1; is_closed = false }
