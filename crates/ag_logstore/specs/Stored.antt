-- Blocks of the log on a disk.
use Rattle.std.specs.Prelude.{◌≡◌, ℕ, zero, suc, ◌+◌, ◌<◌, ◌≤◌, List, [], ◌∷◌, length}
use Rattle.std.specs.List.{fold}
use Rattle.ag_model.specs.declared.record.Record.{Record}
use Rattle.ag_model.specs.declared.record.Log.{Log}
use Rattle.ag_model.specs.Blocks.{with_block}
use Rattle.ag_model.specs.Sizes.{block_sectors}
use Rattle.ag_record.specs.Spelling.{records_spelling, ArePayload}
use Rattle.ag_logblock.specs.declared.Head.{Head}
use Rattle.ag_logblock.specs.Block.{block, HasBlock}
use Rattle.ag_logblock.specs.Fitting.{header_of}
use Rattle.ag_outside.specs.Disks.{Image, or_zeros}

-- the first sector of the log, and the first one after it
abbrev pub log_start : ℕ
log_start = 33088

abbrev pub log_end : ℕ
log_end = 295232

-- a sector of the log
abbrev pub IsLogSector : ℕ → Type 0
IsLogSector at = (log_start ≤ at) × (at < log_end)

-- the incarnation that a sector names, where a lost one counts as zeros
abbrev pub incarnation_at : Image → ℕ → ℕ
incarnation_at image at = (header_of (or_zeros (image at))).head.incarnation

-- a block as it stands on a disk
pub record Stored : Type 0 where
  pub head : Head
  pub records : List Record

-- its sectors
abbrev pub sectors_of : Stored → List (List ℕ)
sectors_of b = block b.head (records_spelling b.records)

-- these sectors stand one after the other from a place on, where a lost one counts as zeros
abbrev pub StandAt : Image → ℕ → List (List ℕ) → Type 0
StandAt image at [] = Unit {0}
StandAt image at (s ∷ ss) = (or_zeros (image at) ≡ s) × StandAt image (suc at) ss

-- these sectors are those of the block
pub record AreSectorsOf (sectors : List (List ℕ)) (b : Stored) : Type 0 where
  pub fits : ArePayload b.records
  pub head : HasBlock b.head (records_spelling b.records)
  pub are : sectors ≡ sectors_of b

-- how many sectors the first of these names
abbrev pub named_count : List (List ℕ) → ℕ
named_count [] = 0
named_count (s ∷ ss) = (header_of s).count

-- so many sectors from a place on, where a lost one counts as zeros
abbrev pub sectors_at : Image → ℕ → ℕ → List (List ℕ)
sectors_at image at zero = []
sectors_at image at (suc n) = or_zeros (image at) ∷ sectors_at image (suc at) n

-- a block stands at this sector, in the log
pub record IsStored (image : Image) (at : ℕ) (b : Stored) : Type 0 where
  pub fits : ArePayload b.records
  pub head : HasBlock b.head (records_spelling b.records)
  pub sectors : StandAt image at (sectors_of b)
  pub within : at + block_sectors b.records ≤ log_end

-- where the next block starts: its sector, its LSN, and the least incarnation that it may have
pub record Place : Type 0 where
  pub sector : ℕ
  pub lsn : ℕ
  pub least : ℕ

-- before the first block
abbrev pub first_place : Place
first_place = record { sector = log_start; lsn = 1; least = 0 }

-- after one block more
abbrev pub after_block : Place → Stored → Place
after_block p b = record { sector = p.sector + block_sectors b.records; lsn = p.lsn + length b.records; least = b.head.incarnation }

-- after these blocks
abbrev pub place_after : Place → List Stored → Place
place_after p bs = fold after_block p bs

-- the block stands there and follows; one that starts above `cut` has at least this incarnation
pub record IsNext (image : Image) (cut incarnation : ℕ) (p : Place) (b : Stored) : Type 0 where
  pub stored : IsStored image p.sector b
  pub first : b.head.first ≡ p.lsn
  pub rising : p.least ≤ b.head.incarnation
  pub current : cut < p.lsn → incarnation ≤ b.head.incarnation

-- these blocks stand one after the other
abbrev pub AreStored : Image → ℕ → ℕ → Place → List Stored → Type 0
AreStored image cut incarnation p [] = Unit {0}
AreStored image cut incarnation p (b ∷ bs) = IsNext image cut incarnation p b × AreStored image cut incarnation (after_block p b) bs

-- the log without a block
abbrev pub no_log : Log
no_log = record { records = []; ends = [] }

-- the log that blocks make
abbrev pub log_of_blocks : List Stored → Log
log_of_blocks bs = fold (λ log b. with_block log b.records) no_log bs
