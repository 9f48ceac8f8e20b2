use Rattle.std.proofs.Common.{sym}
use Rattle.ag_ends.proofs.Starts.{starts_whole}
use Rattle.ag_front.proofs.history.History.append.Goals as goal

pub invariant_of-self-2 : goal.invariant_of-self-2
invariant_of-self-2 c =
    rw (c.in_ok-grow.ensures.records, c.in_ok-grow.ensures.starts, c.self.invariant) (sym (starts_whole c.self.inside.records c.args.block.now))
