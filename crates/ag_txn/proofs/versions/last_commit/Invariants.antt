use Rattle.std.proofs.Common.{◌≡◌, take}
use Rattle.ag_rules.specs.PutEvent.{last_commit}
use Rattle.ag_txn.proofs.versions.last_commit.Given as goal

abbrev pub invariant-loop-version : goal.invariant-loop-version
invariant-loop-version l = l.last ≡ last_commit l.key (take l.version-index l.versions)
