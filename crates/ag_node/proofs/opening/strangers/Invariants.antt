use Rattle.std.proofs.Common.{◌≡◌, replicate}
use Rattle.ag_rules.specs.Replica.{no_peer}
use Rattle.ag_node.proofs.opening.strangers.Given as goal

abbrev pub invariant-loop : goal.invariant-loop
invariant-loop l = l.peers.items ≡ replicate l.counter no_peer
