use Rattle.std.proofs.Common.{◌≡◌}
use Rattle.ag_frame.specs.Frames.{holder}
use Rattle.ag_frame.proofs.frames.frame_of.Given as goal

-- what is left has the frame that was looked for
abbrev pub invariant-loop-number : goal.invariant-loop-number
invariant-loop-number g l = holder l.page l.number-iterator ≡ holder l.page l.cache.entries
