use Rattle.std.proofs.Common.{◌≡◌, replicate}
use Rattle.ag_pool.specs.Frames.{empty_frame}
use Rattle.ag_pool.proofs.pool.empty_frames.Given as goal

abbrev pub invariant-loop : goal.invariant-loop
invariant-loop l = l.frames.items ≡ replicate l.counter empty_frame
