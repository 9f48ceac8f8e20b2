use Rattle.std.proofs.Common.{◌≡◌, take}
use Rattle.ag_txn.specs.Changes.{touched_in}
use Rattle.ag_txn.proofs.opened.touched_by.Given as goal

abbrev pub invariant-loop-open : goal.invariant-loop-open
invariant-loop-open l = l.touched ≡ touched_in l.txn (take l.open-index l.txns)
