use Rattle.std.proofs.Common.{◌∙◌, ap, set}
use Rattle.ag_txn.specs.View.{touching}
use Rattle.ag_txn.proofs.Lists.{each-more}
use Rattle.ag_txn.proofs.opened.touch.Goals as goal

pub loop-open-preserved : goal.loop-open-preserved
loop-open-preserved c =
    let i = c.loop-open.open-index in
    ap (set c.loop-open.txns i) c.touching.ensures ∙ each-more (touching c.args.txn c.args.page) c.args.txns.now c.loop-open.txns i _ c.loop-open-test.true c.loop-open.invariant
