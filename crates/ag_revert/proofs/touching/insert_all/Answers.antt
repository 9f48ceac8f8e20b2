use Rattle.std.proofs.Common.{take, get_or, refl, ◌∙◌, arith}
use Rattle.std.specs.Prelude.{◌||◌}
use Rattle.ag_model.specs.Rows.{contains}
use Rattle.ag_revert.proofs.Touches.{pages_listed}
use Rattle.ag_revert.proofs.touching.insert_all.Goals as goal

pub loop-page-preserved : goal.loop-page-preserved
loop-page-preserved c = λ q e.
    c.add.ensures (λ p. q p || contains p (take c.loop-page.page-index c.args.listed.now)) (c.loop-page.invariant q e)
    ∙ pages_listed q c.args.listed.now c.loop-page.page-index (get_or c.args.listed.now c.loop-page.page-index 0) (omega arith) refl
