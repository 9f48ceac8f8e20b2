use Rattle.std.proofs.Common.{◌≡◌, take, option_to_list}
use Rattle.ag_model.specs.Page.{greatest}
use Rattle.ag_version.specs.Picking.{own_versions}
use Rattle.ag_version.proofs.rows.last_own.Given as goal

abbrev pub invariant-loop-version : goal.invariant-loop-version
invariant-loop-version l = option_to_list l.best ≡ greatest (own_versions l.own l.key (take l.version-index l.versions))
