use Rattle.std.proofs.Common.{◌≡◌, drop}
use Rattle.ag_rules.specs.Replica.{least}
use Rattle.ag_node.proofs.published.Published.front.Given as goal

abbrev pub invariant-loop-place : goal.invariant-loop-place
invariant-loop-place l = l.front ≡ least (drop l.place l.self)
