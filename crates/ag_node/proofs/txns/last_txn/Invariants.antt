use Rattle.std.proofs.Common.{◌≡◌, drop}
use Rattle.std.specs.List.{fold}
use Rattle.ag_node.specs.Folded.{txn_after}
use Rattle.ag_node.proofs.txns.last_txn.Given as goal

abbrev pub invariant-loop-entry : goal.invariant-loop-entry
invariant-loop-entry l = fold txn_after l.last (drop l.entry-index l.log) ≡ fold txn_after 0 l.log
