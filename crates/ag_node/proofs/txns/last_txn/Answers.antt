use Rattle.std.proofs.Common.{◌+◌, ◌∙◌, drop, sym, ap}
use Rattle.std.specs.List.{fold}
use Rattle.std.proofs.lemmas.List.{drop_all, drop_more}
use Rattle.ag_node.specs.Folded.{txn_after}
use Rattle.ag_node.proofs.Folds.{txns_folded}
use Rattle.ag_node.proofs.txns.last_txn.Goals as goal

pub loop-entry-preserved : goal.loop-entry-preserved
loop-entry-preserved c =
    let rest = drop (c.loop-entry.entry-index + 1) c.args.log.now in
    (λ i. fold txn_after ((c.txn_after-last.ensures ∙ ap (txn_after c.loop-entry.last) c.entry-item.is) i) rest)
    ∙ ap (fold txn_after c.loop-entry.last) (sym (drop_more c.args.log.now c.loop-entry.entry-index c.entry-item.result c.loop-entry-test.true))
    ∙ c.loop-entry.invariant

pub returns : goal.returns
returns c =
    ap (fold txn_after c.loop-entry.last) (sym (drop_all c.loop-entry.entry-index c.args.log.now c.loop-entry-test.false))
    ∙ c.loop-entry.invariant ∙ sym (txns_folded c.args.log.now)
