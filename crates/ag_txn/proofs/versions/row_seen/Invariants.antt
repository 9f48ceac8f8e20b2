use Rattle.std.proofs.Common.{◌≡◌, take}
use Rattle.std.specs.List.{fold}
use Rattle.ag_model.specs.Page.{pick, row_of}
use Rattle.ag_rules.specs.GetEvent.{own_versions}
use Rattle.ag_txn.proofs.versions.row_seen.Given as goal

abbrev pub invariant-loop-version : goal.invariant-loop-version
invariant-loop-version l = l.row ≡ fold (λ row w. row_of w.change) (pick l.v l.key l.snapshot) (own_versions l.txn l.key (take l.version-index l.version-items))
