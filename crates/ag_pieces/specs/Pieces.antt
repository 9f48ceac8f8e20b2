-- A batch of pieces on a scripted disk, by what is still ordered of it.
use Rattle.std.specs.Prelude.{◌≡◌, ℕ, ◌+◌, ◌-◌, ◌<◌, ◌≤◌, ◌^◌, List, [], ◌++◌, length, take, Bool, IsTrue}
use Rattle.std.specs.List.{flat_map}
use Rattle.ag_outside.specs.declared.disk.SectorWrite.{SectorWrite}
use Rattle.ag_outside.specs.declared.order.Arm.{Arm}
use Rattle.ag_outside.specs.declared.order.Arm.TheVariants.{Free, Stop, Fail}
use Rattle.ag_outside.specs.declared.order.Why.{Why}
use Rattle.ag_outside.specs.declared.order.Why.TheVariants.{Nothing, Stopped, Device, Inner}
use Rattle.ag_outside.specs.Counts.{HasRisen}
use Rattle.ag_outside.specs.Calls.{Piece}
use Rattle.ag_outside.specs.Disks.{Image, writes, put_all}
use Rattle.ag_outside.specs.Scripts.{ScriptedView, kept}
use Rattle.ag_outside.specs.Shown.{reads_of, synced_of}
use Rattle.ag_writes.specs.declared.order.Order.{Order}
use Rattle.ag_writes.specs.declared.order.Order.TheVariants.{Free as FreeOrder, StopAt, FailAt}

-- what is still ordered of a disk, after so many writes and calls since its order was set
abbrev pub order_left : Arm → ℕ → ℕ → Order
order_left Free written called = FreeOrder
order_left (Stop write mask) written called = StopAt (write - (written + 1)) mask
order_left (Fail call) written called = FailAt (call - (called + 1))

-- the place of the order is still to come, and has 32 bits
abbrev pub IsAhead : Arm → ℕ → ℕ → Type 0
IsAhead Free written called = Unit {0}
IsAhead (Stop write mask) written called = (written < write) × (write < 2 ^ 32)
IsAhead (Fail call) written called = (called < call) × (call < 2 ^ 32)

-- the sectors of pieces, in order of writing
abbrev pub sectors_in : List Piece → List SectorWrite
sectors_in pieces = flat_map (λ p. writes p.first p.sectors) pieces

-- nothing is kept back, and the disk below keeps to its model where it did
pub record IsSettled {D : Type 0} (keeps : D → Bool) (old new : ScriptedView D) : Type 0 where
  pub unsynced : new.unsynced ≡ []
  pub keeps_same : keeps new.disk ≡ keeps old.disk

-- the rest of a batch was stopped in one of its writes: of the sectors since the last sync those stand that the mask keeps
abbrev pub StopsIn : {D : Type 0} → (D → Bool) → (D → Image) → ScriptedView D → List SectorWrite → List Piece → ScriptedView D → Type 0
StopsIn keeps reads old before pieces new =
    (w : ℕ) × (mask : ℕ) × (order_left old.order old.writes old.calls ≡ StopAt w mask) × (w < length pieces) × IsSettled keeps old new
    × (IsTrue (keeps old.disk) → reads_of reads new ≡ put_all (synced_of reads old) (kept mask 0 (before ++ sectors_in (take (w + 1) pieces))))

-- a call of the rest of a batch failed, one of its writes or its sync: what was synced stands
abbrev pub FailsIn : {D : Type 0} → (D → Bool) → (D → Image) → ScriptedView D → List Piece → ScriptedView D → Type 0
FailsIn keeps reads old pieces new =
    (c : ℕ) × (order_left old.order old.writes old.calls ≡ FailAt c) × (c < length pieces + 1) × IsSettled keeps old new
    × (IsTrue (keeps old.disk) → reads_of reads new ≡ synced_of reads old)

-- how the rest of a batch failed, where these sectors were written since the last sync, and why
abbrev pub RestEnds : {D : Type 0} → (D → Bool) → (D → Image) → (D → ℕ) → ScriptedView D → List SectorWrite → List Piece → ScriptedView D → Why → Type 0
RestEnds keeps reads faults old before pieces new Nothing = ⊥
RestEnds keeps reads faults old before pieces new (Stopped write count) = StopsIn keeps reads old before pieces new
RestEnds keeps reads faults old before pieces new Device = FailsIn keeps reads old pieces new
RestEnds keeps reads faults old before pieces new Inner = HasRisen (faults old.disk) (faults new.disk)

-- how a whole batch failed, before which nothing was kept back
abbrev pub BatchEnds : {D : Type 0} → (D → Bool) → (D → Image) → (D → ℕ) → ScriptedView D → List Piece → ScriptedView D → Why → Type 0
BatchEnds keeps reads faults old pieces new why = RestEnds keeps reads faults old [] pieces new why

-- an order that is so many writes, each a call, and a sync further off
abbrev pub further_by : ℕ → Order → Order
further_by n FreeOrder = FreeOrder
further_by n (StopAt w mask) = StopAt (w + n) mask
further_by n (FailAt c) = FailAt (c + (n + 1))

-- a batch of so many pieces went through: nothing is kept back, and the order is so much nearer
pub record BatchPasses {D : Type 0} (keeps : D → Bool) (faults : D → ℕ) (old : ScriptedView D) (count : ℕ) (new : ScriptedView D) : Type 0 where
  pub settled : IsSettled keeps old new
  pub order : new.order ≡ old.order
  pub ahead : IsAhead new.order new.writes new.calls
  pub left : order_left old.order old.writes old.calls ≡ further_by count (order_left new.order new.writes new.calls)
  pub later : faults old.disk ≤ faults new.disk
