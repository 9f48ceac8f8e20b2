-- What stands on the disk of a replica.
use Rattle.std.specs.Prelude.{◌≡◌, ◌≤◌, ℕ, List, [], replicate, Bool, true, false, IsTrue, Option, if◌then◌else◌}
use Rattle.std.specs.Option.{MatchOption}
use Rattle.ag_model.specs.declared.record.Record.{Record}
use Rattle.ag_model.specs.declared.record.Log.{Log}
use Rattle.ag_model.specs.Blocks.{with_block}
use Rattle.ag_outside.specs.Disks.{Content, Image, or_zeros}
use Rattle.ag_outside.specs.Scripts.{ScriptedView}
use Rattle.ag_outside.specs.Shown.{reads_of, holds_of}
use Rattle.ag_master.specs.Spelling.{spelling, HasSpelling}
use Rattle.ag_logstore.specs.Stored.{log_end, IsLogSector, incarnation_at}
use Rattle.ag_logstore.specs.LogOf.{IsLogOf}
use Rattle.ag_logstore.specs.Stores.{StoreView, IsReady}
use Rattle.ag_kept.specs.declared.reach.Reach.{Reach}
use Rattle.ag_kept.specs.declared.reach.Reach.TheVariants.{End, Stop, Fault}
use Rattle.ag_kept.specs.Kept.{master_on, master_of}
use Rattle.ag_kept.specs.LogOn.{log_on}

-- an image has a log, for this cut and incarnation, which no sector of the log exceeds
pub record HasLog (image : Image) (cut incarnation : ℕ) (log : Log) : Type 0 where
  pub is : IsLogOf image cut incarnation log
  pub greatest : (at : ℕ) → IsLogSector at → incarnation_at image at ≤ incarnation

-- an image is that of a replica: its first sector is a master of the first term, and it has the log of that
pub record IsHome (image : Image) : Type 0 where
  pub plain : master_on image ≡ master_of (master_on image).incarnation (master_on image).cut (master_on image).redo (master_on image).pages (master_on image).replica
  pub fits : HasSpelling (master_on image)
  pub spelled : or_zeros (image 0) ≡ spelling (master_on image)
  pub least : 1 ≤ (master_on image).incarnation
  pub log : HasLog image (master_on image).cut (master_on image).incarnation (log_on image (master_on image).cut (master_on image).incarnation)

-- memory has the log of the disk, and can append to it
pub record IsMemory {D : Type 0} (keeps : D → Bool) (reads : D → Image) (may_hold : D → ℕ → Content → Type 0) (disk : ScriptedView D) (s : StoreView) : Type 0 where
  pub cut : s.cut ≡ (master_on (reads_of reads disk)).cut
  pub incarnation : s.incarnation ≡ (master_on (reads_of reads disk)).incarnation
  pub is_open : s.is_closed ≡ false
  pub ready : IsReady (keeps disk.disk) (reads_of reads disk) (holds_of keeps may_hold disk) s

-- the disk keeps to its model, has nothing unsynced, and is that of a replica
pub record IsAtHome {D : Type 0} (keeps : D → Bool) (reads : D → Image) (disk : ScriptedView D) : Type 0 where
  pub modelled : IsTrue (keeps disk.disk)
  pub unsynced : disk.unsynced ≡ []
  pub home : IsHome (reads_of reads disk)

-- a disk of zeros, which keeps to its model and has nothing unsynced
pub record IsBlank {D : Type 0} (keeps : D → Bool) (reads : D → Image) (disk : ScriptedView D) : Type 0 where
  pub modelled : IsTrue (keeps disk.disk)
  pub unsynced : disk.unsynced ≡ []
  pub zeros : (at : ℕ) → or_zeros (reads_of reads disk at) ≡ replicate 512 0

-- what holds of the fields of a store: its disk is that of a replica unless a fault came
pub record IsStore {D : Type 0} (size : D → ℕ) (keeps : D → Bool) (reads : D → Image) (may_hold : D → ℕ → Content → Type 0)
    (disk : ScriptedView D) (memory : Option StoreView) (sound : Bool) : Type 0 where
  pub room : log_end ≤ size disk.disk
  pub stands : sound ≡ true → IsAtHome keeps reads disk
  pub loaded : sound ≡ true → MatchOption memory (Unit {0}) (λ s. IsMemory keeps reads may_hold disk s)

-- the log of a store that wrote a block so far
abbrev pub reached_log : StoreView → List Record → Reach → Log
reached_log s new End = with_block s.log new
reached_log s new (Stop whole) = if whole then with_block s.log new else s.log
reached_log s new Fault = s.log

-- a write in the log leaves this log, and each sector that is none of the log's as it was
pub record LeavesLog (image : Image) (cut incarnation : ℕ) (log : Log) (after : Image) : Type 0 where
  pub has : HasLog after cut incarnation log
  pub others : (at : ℕ) → (IsLogSector at → ⊥) → after at ≡ image at
