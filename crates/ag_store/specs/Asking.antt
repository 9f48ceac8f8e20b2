-- What a store answers of a row.
use Rattle.std.specs.Prelude.{◌≡◌, ℕ, ◌<◌, Bool, true, false}
use Rattle.ag_store.specs.declared.fault.ReadFault.{ReadFault}
use Rattle.ag_store.specs.declared.fault.ReadFault.TheVariants.{TooOld, Gave}

-- the snapshot is below this horizon, unless the store gave up
abbrev pub IsTooOldBy : ℕ → ℕ → ReadFault → Type 0
IsTooOldBy snapshot horizon (TooOld s h) = (s ≡ snapshot) × (h ≡ horizon) × (snapshot < horizon)
IsTooOldBy snapshot horizon (Gave why) = Unit {0}

-- a snapshot that is too old leaves a store sound, and one that gave up isn't
abbrev pub LeavesSound : Bool → ReadFault → Type 0
LeavesSound sound (TooOld snapshot horizon) = sound ≡ true
LeavesSound sound (Gave why) = sound ≡ false
