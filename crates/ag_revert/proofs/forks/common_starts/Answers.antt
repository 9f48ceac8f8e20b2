use Rattle.std.proofs.Common.{arith}
use Rattle.ag_revert.proofs.Starts.{common_none}
use Rattle.ag_revert.proofs.forks.common_starts.Goals as goal

pub returns-clause-value : goal.returns-clause-value
returns-clause-value c =
    omega (arith, c.loop-i.invariant, common_none c.args.own.now c.args.other.now c.loop-i.i (omega arith), c.min-shorter.ensures)
