-- How a write that is synced ends on a disk that follows an order.
use Rattle.std.specs.Prelude.{◌≡◌, ◌⊎◌, ◌+◌, ◌-◌, ◌^◌, ◌==◌, ◌≤◌, ℕ, min, length, [], Bool, IsTrue, Result, Ok, Err}
use Rattle.ag_model.specs.Cells.{keeps_all}
use Rattle.ag_outside.specs.declared.order.Arm.{Arm}
use Rattle.ag_outside.specs.declared.order.Arm.TheVariants.{Stop, Fail}
use Rattle.ag_outside.specs.declared.order.Why.{Why}
use Rattle.ag_outside.specs.declared.order.Why.TheVariants.{Nothing, Stopped, Device, Inner}
use Rattle.ag_outside.specs.Counts.{HasRisen}
use Rattle.ag_outside.specs.Disks.{Content, Image, writes, put_all}
use Rattle.ag_outside.specs.Calls.{Piece}
use Rattle.ag_outside.specs.Scripts.{ScriptedView, kept}
use Rattle.ag_outside.specs.Shown.{reads_of}
use Rattle.ag_kept.specs.declared.fault.KeptFault.{KeptFault}
use Rattle.ag_kept.specs.declared.fault.KeptFault.TheVariants.{DiskFault}
use Rattle.ag_kept.specs.declared.reach.Reach.{Reach}
use Rattle.ag_kept.specs.declared.reach.Reach.TheVariants.{End, Stop as StopReach, Fault}

-- one more, as a count goes
abbrev pub next : ℕ → ℕ
next n = min (n + 1) (2 ^ 64 - 1)

-- nothing is kept back, and the disk below keeps to its model where it did
pub record IsSettled {D : Type 0} (keeps : D → Bool) (old new : ScriptedView D) : Type 0 where
  pub unsynced : new.unsynced ≡ []
  pub keeps_same : keeps new.disk ≡ keeps old.disk

-- The write of a piece, or the sync after it, failed, and this says why. A stop leaves what its mask keeps of the piece, a fail nothing of it.
abbrev pub EndsBy : {D : Type 0} → (D → Bool) → (D → Image) → (D → ℕ → Content → Type 0) → (D → ℕ) → ScriptedView D → Piece → ScriptedView D → Why → Type 0
EndsBy keeps reads may_hold faults old piece new Nothing = ⊥
EndsBy keeps reads may_hold faults old piece new (Stopped write count) =
    (mask : ℕ) × (old.order ≡ Stop write mask) × (write ≡ next old.writes) × (count ≡ min (length (kept mask 0 (writes piece.first piece.sectors))) (2 ^ 32 - 1))
    × IsSettled keeps old new × (IsTrue (keeps old.disk) → reads_of reads new ≡ put_all (reads_of reads old) (kept mask 0 (writes piece.first piece.sectors)))
EndsBy keeps reads may_hold faults old piece new Device =
    ((old.order ≡ Fail (next old.calls)) ⊎ (old.order ≡ Fail (next (next old.calls)))) × IsSettled keeps old new × (IsTrue (keeps old.disk) → reads_of reads new ≡ reads_of reads old)
EndsBy keeps reads may_hold faults old piece new Inner = HasRisen (faults old.disk) (faults new.disk)

-- The sync failed, and this says why.
abbrev pub EndsSync : {D : Type 0} → (D → Bool) → (D → Image) → (D → ℕ → Content → Type 0) → (D → ℕ) → ScriptedView D → ScriptedView D → Why → Type 0
EndsSync keeps reads may_hold faults old new Nothing = ⊥
EndsSync keeps reads may_hold faults old new (Stopped write count) = ⊥
EndsSync keeps reads may_hold faults old new Device = (old.order ≡ Fail (next old.calls)) × IsSettled keeps old new × (IsTrue (keeps old.disk) → reads_of reads new ≡ reads_of reads old)
EndsSync keeps reads may_hold faults old new Inner = HasRisen (faults old.disk) (faults new.disk)

-- a piece was written and synced, and no order reached
pub record WentThrough {D : Type 0} (keeps : D → Bool) (faults : D → ℕ) (old new : ScriptedView D) : Type 0 where
  pub settled : IsSettled keeps old new
  pub later : faults old.disk ≤ faults new.disk
  pub order : new.order ≡ old.order
  pub no_stop : (mask : ℕ) → old.order ≡ Stop (next old.writes) mask → ⊥
  pub no_fail : old.order ≡ Fail (next old.calls) → ⊥
  pub no_fail_at_sync : old.order ≡ Fail (next (next old.calls)) → ⊥

-- a sync went well, and no order was reached
pub record WasSynced {D : Type 0} (keeps : D → Bool) (faults : D → ℕ) (old new : ScriptedView D) : Type 0 where
  pub settled : IsSettled keeps old new
  pub later : faults old.disk ≤ faults new.disk
  pub order : new.order ≡ old.order
  pub writes_same : new.writes ≡ old.writes
  pub calls_counted : new.calls ≡ next old.calls
  pub no_fail : old.order ≡ Fail (next old.calls) → ⊥

-- how far a write of so many sectors came that failed, by what the disk says
abbrev pub reach_of : Why → ℕ → Result Reach KeptFault
reach_of Nothing sectors = Err DiskFault
reach_of (Stopped write count) sectors = Ok (StopReach (count == sectors))
reach_of Device sectors = Ok Fault
reach_of Inner sectors = Err DiskFault

-- a write of one sector, with this number, and its sync can come so far by an order, where these are the numbers of both calls
abbrev pub MayReach : Arm → ℕ → ℕ → ℕ → Reach → Type 0
MayReach order write call sync End = ((mask : ℕ) → order ≡ Stop write mask → ⊥) × (order ≡ Fail call → ⊥) × (order ≡ Fail sync → ⊥)
MayReach order write call sync (StopReach whole) = (mask : ℕ) × (order ≡ Stop write mask) × (whole ≡ keeps_all mask 0 1)
MayReach order write call sync Fault = (order ≡ Fail call) ⊎ (order ≡ Fail sync)
