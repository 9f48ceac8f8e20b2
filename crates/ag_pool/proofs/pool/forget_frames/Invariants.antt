use Rattle.std.proofs.Common.{◌≡◌, ◌++◌, map, take, drop}
use Rattle.ag_pool.specs.Frames.{forgotten}
use Rattle.ag_pool.proofs.pool.forget_frames.Given as goal

abbrev pub invariant-loop-frame : goal.invariant-loop-frame
invariant-loop-frame l = l.frame-items ≡ map forgotten (take l.frame-index l.fn.frames.items) ++ drop l.frame-index l.fn.frames.items
