use Rattle.std.proofs.Common.{◌≡◌, ◌++◌, map, take, drop}
use Rattle.ag_pool.specs.Frames.{lowered_lsns}
use Rattle.ag_pool.proofs.pool.lower_stripes.Given as goal

abbrev pub invariant-loop-stripe : goal.invariant-loop-stripe
invariant-loop-stripe l = l.stripe-items ≡ map (lowered_lsns l.lsn) (take l.stripe-index l.fn.stripes.items) ++ drop l.stripe-index l.fn.stripes.items
