use Rattle.std.proofs.Common.{◌≡◌, map, take}
use Rattle.ag_rules.specs.GetEvent.{snapshot_in}
use Rattle.ag_txn.specs.View.{plain}
use Rattle.ag_txn.proofs.opened.snapshot_of.Given as goal

abbrev pub invariant-loop-open : goal.invariant-loop-open
invariant-loop-open l = l.snapshot ≡ snapshot_in l.txn (map plain (take l.open-index l.txns))
