use Rattle.std.proofs.Common.{◌≡◌, map, take, min, [], get_or}
use Rattle.std.specs.List.{fold}
use Rattle.ag_txn.specs.declared.opened.OpenTxn.{OpenTxn}
use Rattle.ag_txn.proofs.opened.least_snapshot.Given as goal

abbrev pub invariant-loop-open : goal.invariant-loop-open
invariant-loop-open l = l.least ≡ fold min (get_or l.txns 0 (record { txn = 0; snapshot = 0; touched = [] })).snapshot (map (λ (o : OpenTxn). o.snapshot) (take l.open-index l.txns))
