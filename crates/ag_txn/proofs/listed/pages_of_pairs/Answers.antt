use Rattle.std.proofs.Common.{[], ◌∙◌, sym, arith}
use Rattle.ag_txn.proofs.Rising.{pages_of_none, pages_of_next}
use Rattle.ag_txn.proofs.listed.pages_of_pairs.Goals as goal

pub loop-pair-init : goal.loop-pair-init
loop-pair-init c = c.new-listed.ensures.items ∙ sym (pages_of_none c.args.pages)

pub loop-pair-preserved : goal.loop-pair-preserved
loop-pair-preserved c =
    pages_of_next c.args.pages c.args.pairs.now c.loop-pair.pair-index (record { key = 0; value = record { len = 0; bytes = [] } })
    c.loop-pair.listed.items c.insert_rising.new.numbers.items c.page_of.result (omega arith) c.loop-pair-test.true
    c.in_ok-insert_rising.ensures c.loop-pair.invariant c.page_of.ensures
