use Rattle.std.proofs.Common.{◌≡◌, ◌++◌, map, take, drop}
use Rattle.ag_pool.specs.Frames.{not_come}
use Rattle.ag_pool.proofs.pool.none_came_of.Given as goal

abbrev pub invariant-loop-frame : goal.invariant-loop-frame
invariant-loop-frame l = l.frame-items ≡ map not_come (take l.frame-index l.fn.frames.items) ++ drop l.frame-index l.fn.frames.items
