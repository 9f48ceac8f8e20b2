-- A store of a log, and the disk that it needs.
use Rattle.std.specs.Prelude.{◌≡◌, ◌⊎◌, ℕ, ◌+◌, ◌^◌, ◌<◌, ◌≤◌, List, length, Bool, IsTrue}
use Rattle.ag_model.specs.declared.message.Block.{Block as BlockOf}
use Rattle.ag_model.specs.declared.record.Record.{Record}
use Rattle.ag_model.specs.declared.record.Log.{Log}
use Rattle.ag_model.specs.Blocks.{with_block}
use Rattle.ag_model.specs.Sizes.{log_sectors, block_sectors}
use Rattle.ag_record.specs.Spelling.{records_spelling, ArePayload}
use Rattle.ag_logblock.specs.Block.{HasBlock}
use Rattle.ag_outside.specs.Calls.{Piece}
use Rattle.ag_outside.specs.Disks.{Content, Image, writes, WroteSo, Only}
use Rattle.ag_logstore.specs.Stored.{log_start, log_end, IsLogSector, Stored, sectors_of, incarnation_at}
use Rattle.ag_logstore.specs.LogOf.{IsLogOf}

-- what is seen of a store
pub record StoreView : Type 0 where
  pub log : Log
  pub cut : ℕ
  pub incarnation : ℕ
  pub is_closed : Bool

-- the sector after the blocks of a log
abbrev pub sector_after : Log → ℕ
sector_after log = log_start + log_sectors log

-- a block with the incarnation that it is written with
abbrev pub stored_by : ℕ → BlockOf → Stored
stored_by incarnation b = record { head = record { term = b.term; incarnation = incarnation; first = b.first }; records = b.records }

-- the sectors of a block with this incarnation
abbrev pub sectors_by : ℕ → BlockOf → List (List ℕ)
sectors_by incarnation b = sectors_of (stored_by incarnation b)

-- the piece of them that is written after the blocks of a log
abbrev pub piece_by : Log → ℕ → BlockOf → Piece
piece_by log incarnation b = record { first = sector_after log; sectors = sectors_by incarnation b }

-- The image has the store's log. No sector of the log names a greater incarnation, and none after the blocks names this one.
pub record IsCurrent (image : Image) (s : StoreView) : Type 0 where
  pub log : IsLogOf image s.cut s.incarnation s.log
  pub greatest : (at : ℕ) → IsLogSector at → incarnation_at image at ≤ s.incarnation
  pub unused : (at : ℕ) → sector_after s.log ≤ at → at < log_end → incarnation_at image at ≡ s.incarnation → ⊥

-- a block that can be written after a store's log
pub record Follows (s : StoreView) (b : Stored) : Type 0 where
  pub fits : ArePayload b.records
  pub head : HasBlock b.head (records_spelling b.records)
  pub first : b.head.first ≡ length s.log.records + 1
  pub incarnation : b.head.incarnation ≡ s.incarnation
  pub room : sector_after s.log + block_sectors b.records ≤ log_end

-- what a store needs to append a block to a disk: where this keeps to the model, it has the store's log, and nothing is unsynced
pub record IsReady (keeps : Bool) (image : Image) (may_hold : ℕ → Content → Type 0) (s : StoreView) : Type 0 where
  pub least : 1 ≤ s.incarnation
  pub most : s.incarnation < 2 ^ 64
  pub current : IsTrue keeps → IsCurrent image s
  pub synced : IsTrue keeps → Only image may_hold

-- each of these sectors from a place on is as before or new, and all others are as before
abbrev pub IsTorn : Image → ℕ → List (List ℕ) → Image → Type 0
IsTorn image first sectors after = (at : ℕ) → (after at ≡ image at) ⊎ WroteSo (writes first sectors) at (after at)

-- the image has the log or the log with a block more, and all sectors but those of the block are as before
pub record IsBeforeOrAfter (image : Image) (s : StoreView) (records : List Record) (after : Image) : Type 0 where
  pub log : IsLogOf after s.cut s.incarnation s.log ⊎ IsLogOf after s.cut s.incarnation (with_block s.log records)
  pub others : (at : ℕ) → (at < sector_after s.log) ⊎ (sector_after s.log + block_sectors records ≤ at) → after at ≡ image at
