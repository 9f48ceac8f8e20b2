use Rattle.std.proofs.Common.{◌≡◌, ◌++◌, take, map}
use Rattle.ag_node.specs.Nodes.{at_opening}
use Rattle.ag_node.proofs.opening.push_secondaries.Given as goal

abbrev pub invariant-loop : goal.invariant-loop
invariant-loop l = l.peers.items ≡ l.fn.peers.items ++ map (λ m. at_opening) (take l.index l.modes)
