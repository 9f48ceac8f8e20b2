use Rattle.std.proofs.Common.{◌≡◌, [], take}
use Rattle.ag_rules.specs.PutEvent.{holders}
use Rattle.ag_txn.proofs.versions.check_lock.Given as goal

abbrev pub invariant-loop-version : goal.invariant-loop-version
invariant-loop-version l = holders l.txn l.key (take l.version-index l.versions) ≡ []
