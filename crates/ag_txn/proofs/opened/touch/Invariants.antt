use Rattle.std.proofs.Common.{◌≡◌, ◌++◌, map, take, drop}
use Rattle.ag_txn.specs.View.{touching}
use Rattle.ag_txn.proofs.opened.touch.Given as goal

abbrev pub invariant-loop-open : goal.invariant-loop-open
invariant-loop-open l = l.txns ≡ map (touching l.txn l.page) (take l.open-index l.fn.txns) ++ drop l.open-index l.fn.txns
