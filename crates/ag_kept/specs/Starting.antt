-- What a start does to the disk of a replica.
use Rattle.std.specs.Prelude.{◌≡◌, ◌+◌, ℕ, Bool, false, if◌then◌else◌}
use Rattle.ag_model.specs.declared.record.Log.{Log}
use Rattle.ag_outside.specs.Disks.{Content, Image, put}
use Rattle.ag_outside.specs.Scripts.{ScriptedView}
use Rattle.ag_outside.specs.Shown.{reads_of}
use Rattle.ag_master.specs.declared.master.Master.{Master}
use Rattle.ag_master.specs.Spelling.{spelling}
use Rattle.ag_logstore.specs.LogOf.{IsLogOf}
use Rattle.ag_logstore.specs.Stores.{StoreView}
use Rattle.ag_kept.specs.declared.reach.Reach.{Reach}
use Rattle.ag_kept.specs.declared.reach.Reach.TheVariants.{End, Stop, Fault}
use Rattle.ag_kept.specs.Kept.{master_on}
use Rattle.ag_kept.specs.LogOn.{log_on}
use Rattle.ag_kept.specs.Ending.{WasSynced}

-- the log that an image has, by its own master
abbrev pub own_log : Image → Log
own_log image = log_on image (master_on image).cut (master_on image).incarnation

-- a master for the next incarnation, with the cut at this LSN
abbrev pub raised_master : Master → ℕ → Master
raised_master m end = record m { incarnation = m.incarnation + 1; cut = end }

-- an image with another master
abbrev pub with_master : Image → Master → Image
with_master image m = put image (record { at = 0; sector = spelling m })

-- an image once a start came so far, where the master that it writes is this one
abbrev pub raised_so_far : Image → Master → Reach → Image
raised_so_far image m End = with_master image m
raised_so_far image m (Stop whole) = if whole then with_master image m else image
raised_so_far image m Fault = image

-- a store was loaded from a disk, which was synced
pub record WasLoaded {D : Type 0} (keeps : D → Bool) (reads : D → Image) (may_hold : D → ℕ → Content → Type 0) (faults : D → ℕ) (old new : ScriptedView D) (m : Master) (s : StoreView) : Type 0 where
  pub cut : s.cut ≡ m.cut
  pub incarnation : s.incarnation ≡ m.incarnation
  pub is_open : s.is_closed ≡ false
  pub log : IsLogOf (reads_of reads old) m.cut m.incarnation s.log
  pub synced : WasSynced keeps faults old new
  pub reads_same : reads_of reads new ≡ reads_of reads old
