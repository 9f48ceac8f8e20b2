use Rattle.std.proofs.Common.{◌∙◌, ap}
use Rattle.std.specs.Prelude.{◌==◌, ◌||◌}
use Rattle.ag_model.specs.Rows.{contains}
use Rattle.ag_model.specs.PageSets.{pages_where}
use Rattle.ag_revert.proofs.Touches.{pages_add}
use Rattle.ag_revert.proofs.touching.add.Goals as goal

pub returns : goal.returns
returns c = λ q e. c.insert.ensures ∙ ap (λ s. pages_where (λ p. (p == c.args.page) || contains p s)) e ∙ pages_add q c.args.page
