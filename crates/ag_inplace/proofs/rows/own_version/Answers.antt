use Rattle.std.proofs.Common.{◌∙◌, sym, ap, Option, ℕ}
use Rattle.ag_model.specs.Page.{greatest}
use Rattle.ag_version.specs.Picking.{own_versions}
use Rattle.ag_inplace.proofs.Picked.{own-none}
use Rattle.ag_inplace.proofs.rows.own_version.Goals as goal

pub returns-in-None : goal.returns-in-None
returns-in-None c = λ ws h. sym (ap (λ (o : Option ℕ). greatest (own_versions o c.args.key ws)) c.in-None.is ∙ ap greatest (own-none c.args.key ws))
