-- What a replica keeps on its disk.
use Rattle.std.specs.Prelude.{◌≡◌, ◌<◌, ◌≤◌, ◌+◌, ℕ, [], ◌∷◌, length, List, Bool, true, false, if◌then◌else◌}
use Rattle.ag_model.specs.declared.record.Record.{Record}
use Rattle.ag_model.specs.declared.record.Record.TheVariants.{Term}
use Rattle.ag_model.specs.declared.record.Log.{Log}
use Rattle.ag_model.specs.Blocks.{with_block}
use Rattle.ag_outside.specs.Disks.{Image, or_zeros}
use Rattle.ag_master.specs.declared.master.Master.{Master}
use Rattle.ag_master.specs.Spelling.{fields}
use Rattle.ag_kept.specs.declared.reach.Reach.{Reach}
use Rattle.ag_kept.specs.declared.reach.Reach.TheVariants.{End, Stop, Fault}
use Rattle.ag_kept.specs.LogOn.{log_on}

-- what stands on the disk: the log, the incarnation, the LSN above which no block of an earlier incarnation counts, and the
-- LSN from which redo starts, how many data pages there are and the replica's number; and whether the log is in memory too
pub record Kept : Type 0 where
  pub log : Log
  pub incarnation : ℕ
  pub cut : ℕ
  pub redo : ℕ
  pub pages : ℕ
  pub replica : ℕ
  pub loaded : Bool

-- what is seen of a store: what it keeps, unless a fault has left that open, and how often the disk below has failed
pub record Seen : Type 0 where
  pub kept : Kept
  pub sound : Bool
  pub faults : ℕ

-- the master of an image
abbrev pub master_on : Image → Master
master_on image = fields (or_zeros (image 0))

-- what an image says
abbrev pub kept_on : Image → Bool → Kept
kept_on image loaded = record {
  log = log_on image (master_on image).cut (master_on image).incarnation;
  incarnation = (master_on image).incarnation;
  cut = (master_on image).cut;
  redo = (master_on image).redo;
  pages = (master_on image).pages;
  replica = (master_on image).replica;
  loaded = loaded;
}

-- a sector of the pages' images
abbrev pub IsPageSector : ℕ → Type 0
IsPageSector at = (64 ≤ at) × (at < 33088)

-- the images of all pages are the same
abbrev pub SamePages : Image → Image → Type 0
SamePages old new = (at : ℕ) → IsPageSector at → new at ≡ old at

-- the master of a replica in its first term
abbrev pub master_of : ℕ → ℕ → ℕ → ℕ → ℕ → Master
master_of incarnation cut redo pages replica = record { format = 1; state = 0; incarnation = incarnation; term = 1; cut = cut; undo = 0; redo = redo; pages = pages; replica = replica; foreign = [] }

-- memory is lost
abbrev pub forgotten : Kept → Kept
forgotten k = record k { loaded = false }

-- what is kept with a block more
abbrev pub with_more : Kept → List Record → Kept
with_more k new = record k { log = with_block k.log new }

-- what is kept once a block was written so far
abbrev pub hardened : Kept → List Record → Reach → Kept
hardened k new End = with_more k new
hardened k new (Stop whole) = forgotten (if whole then with_more k new else k)
hardened k new Fault = forgotten k

-- the next incarnation, with the cut at the log's end
abbrev pub raised : Kept → Kept
raised k = record k { incarnation = k.incarnation + 1; cut = length k.log.records }

-- what is kept once a start came so far
abbrev pub started : Kept → Reach → Kept
started k End = record (raised k) { loaded = true }
started k (Stop whole) = if whole then raised k else k
started k Fault = k

-- what the replica of this number keeps as a group opens, with so many data pages: the block that starts term 1
abbrev pub opening_kept : ℕ → ℕ → Kept
opening_kept pages replica = record { log = record { records = Term 1 ∷ []; ends = 1 ∷ [] }; incarnation = 1; cut = 0; redo = 1; pages = pages; replica = replica; loaded = true }
