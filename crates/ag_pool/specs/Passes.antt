-- Redo of a stripe by the frames alone.
use Rattle.std.specs.Prelude.{◌≡◌, ℕ, ◌+◌, ◌-◌, Bool, true, ◌&&◌, ◌==◌, nat_le, nat_lt, if◌then◌else◌, List, length, get_or}
use Rattle.ag_model.specs.declared.record.Record.{Record}
use Rattle.ag_model.specs.Rows.{stripe_of}
use Rattle.ag_pool.specs.declared.fault.PoolFault.{PoolFault}
use Rattle.ag_pool.specs.declared.fault.PoolFault.TheVariants.{Full, NoMemory}
use Rattle.ag_pool.specs.declared.frame.Frame.{Frame}
use Rattle.ag_pool.specs.Frames.{empty_frame}
use Rattle.ag_pool.specs.Redo.{redone_frame, CanTake, HasNoRoom}

-- whether the frames have one of this page
abbrev pub has_frame : List Frame → ℕ → Bool
has_frame frames page = nat_le 16 page && nat_lt page (16 + length frames)

-- the frame of a page
abbrev pub frame_in : List Frame → ℕ → Frame
frame_in frames page = get_or frames (page - 16) empty_frame

-- the frame of a page after one record, where it is of the stripe and this passes it
abbrev pub redone_where : ℕ → ℕ → Record → (ℕ → Bool) → ℕ → Frame → Frame
redone_where x lsn r passes page f = if (stripe_of page == x) && passes page then redone_frame lsn r f else f

-- why a record isn't redone on the pages of the stripe that this passes
abbrev pub IsRefused : ℕ → ℕ → Record → (ℕ → Bool) → List Frame → PoolFault → Type 0
IsRefused x lsn r passes frames (Full page) =
    (stripe_of page ≡ x) × (has_frame frames page ≡ true) × (passes page ≡ true) × (CanTake lsn r (frame_in frames page) → ⊥)
IsRefused x lsn r passes frames NoMemory = Unit {0}

-- why the records that come next after an LSN aren't redone on the pages of the stripe
abbrev pub AreRefused : ℕ → ℕ → ℕ → List Record → List Frame → PoolFault → Type 0
AreRefused x pages lsn records frames (Full page) =
    (stripe_of page ≡ x) × (has_frame frames page ≡ true) × HasNoRoom pages page lsn records (frame_in frames page)
AreRefused x pages lsn records frames NoMemory = Unit {0}
