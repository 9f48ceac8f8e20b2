use Rattle.std.proofs.Common.{take, sym, ◌∙◌, arith}
use Rattle.std.specs.List.{list_any}
use Rattle.ag_model.specs.Rows.{touches}
use Rattle.ag_revert.proofs.Touches.{pages_none, pages_touched}
use Rattle.ag_revert.proofs.touching.touched.Goals as goal

pub loop-entry-init : goal.loop-entry-init
loop-entry-init c = c.empty-set.ensures ∙ sym pages_none

pub loop-entry-preserved : goal.loop-entry-preserved
loop-entry-preserved c =
    c.touch.ensures (λ p. list_any (touches c.args.pages p) (take c.loop-entry.entry-index c.rest_after-records.result.now)) c.loop-entry.invariant
    ∙ pages_touched c.args.pages c.rest_after-records.result.now c.loop-entry.entry-index c.entry-item.result (omega arith) c.entry-item.is
