use Rattle.std.proofs.Common.{◌≡◌, ◌+◌, drop}
use Rattle.ag_rules.specs.Group.{waited_for}
use Rattle.ag_node.proofs.opening.waited_for.Given as goal

abbrev pub invariant-loop-mode : goal.invariant-loop-mode
invariant-loop-mode l = l.set + waited_for l.bit (drop l.mode-index l.modes) ≡ waited_for 2 l.modes
