use Rattle.std.proofs.Common.{◌≡◌, ◌&&◌, eqb, take, option_to_list}
use Rattle.std.specs.List.{filter}
use Rattle.ag_model.specs.Page.{greatest, is_committed_at}
use Rattle.ag_txn.proofs.versions.last_committed.Given as goal

abbrev pub invariant-loop-version : goal.invariant-loop-version
invariant-loop-version l = option_to_list l.best ≡ greatest (filter (λ w. eqb w.key l.key && is_committed_at l.snapshot w) (take l.version-index l.versions))
