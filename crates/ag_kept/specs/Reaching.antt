-- How far a write comes whose order stops it, or has a call fail.
use Rattle.std.specs.Prelude.{ℕ, nat_le, max, if◌then◌else◌}
use Rattle.ag_model.specs.declared.event.Suffix.{Suffix}
use Rattle.ag_model.specs.declared.event.Suffix.TheVariants.{Whole, Stop as StopAt, Fail}
use Rattle.ag_model.specs.Cells.{keeps_all}
use Rattle.ag_outside.specs.declared.order.Arm.{Arm}
use Rattle.ag_outside.specs.declared.order.Arm.TheVariants.{Free, Stop as StopOrder, Fail as FailOrder}
use Rattle.ag_kept.specs.declared.reach.Reach.{Reach}
use Rattle.ag_kept.specs.declared.reach.Reach.TheVariants.{End, Stop, Fault}

-- how far it comes, where the write has so many sectors and so many calls of the disk are made
abbrev pub how_far : Suffix → ℕ → ℕ → Reach
how_far Whole sectors calls = End
how_far (StopAt w mask) sectors calls = if nat_le w 1 then Stop (keeps_all mask 0 sectors) else End
how_far (Fail c) sectors calls = if nat_le c calls then Fault else End

-- what a suffix orders of a disk, where writes and calls count from 1
abbrev pub order_of : Suffix → Arm
order_of Whole = Free
order_of (StopAt w mask) = StopOrder (max w 1) mask
order_of (Fail c) = FailOrder (max c 1)
