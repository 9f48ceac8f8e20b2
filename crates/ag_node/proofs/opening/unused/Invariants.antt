use Rattle.std.proofs.Common.{◌≡◌, replicate}
use Rattle.ag_node.proofs.opening.unused.Given as goal

abbrev pub invariant-loop : goal.invariant-loop
invariant-loop l = l.counts.items ≡ replicate l.counter 0
