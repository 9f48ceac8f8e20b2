use Rattle.ag_txn.proofs.Copied.{fresh_more}
use Rattle.ag_txn.proofs.copies.fresh_copies.Goals as goal

pub loop-page-preserved : goal.loop-page-preserved
loop-page-preserved c =
    fresh_more c.args.pages c.args.first c.args.records.now c.args.copies.now c.args.listed.now c.loop-page.page-index c.loop-page.fresh.items c.add_some.new.fresh.items c.in_ok-next.next
    c.loop-page-test.true c.loop-page.invariant c.in_ok-next.ensures c.in_ok-add_some.ensures
