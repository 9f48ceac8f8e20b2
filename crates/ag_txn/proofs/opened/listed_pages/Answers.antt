use Rattle.ag_model.specs.Rows.{contains}
use Rattle.ag_txn.proofs.Added.{listed_more}
use Rattle.ag_txn.proofs.opened.listed_pages.Goals as goal

pub loop-page-preserved : goal.loop-page-preserved
loop-page-preserved c =
    listed_more (λ p. contains p c.args.set.now) c.loop-page.page c.has-there.result c.loop-page.listed.items c.list_if.new.listed.items c.loop-page.auto.page c.loop-page.invariant
    c.has-there.ensures.answer c.in_ok-list_if.ensures
