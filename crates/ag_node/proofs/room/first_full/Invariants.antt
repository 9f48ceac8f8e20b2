use Rattle.std.proofs.Common.{◌≡◌, [], take, drop}
use Rattle.ag_node.specs.Room.{first_full}
use Rattle.ag_node.proofs.room.first_full.Given as goal

abbrev pub invariant-loop-index : goal.invariant-loop-index
invariant-loop-index l = first_full l.pages l.used [] l.pairs ≡ first_full l.pages l.used (take l.index l.pairs) (drop l.index l.pairs)
