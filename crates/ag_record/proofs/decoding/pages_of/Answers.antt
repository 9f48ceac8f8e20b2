use Rattle.std.proofs.Common.{sym, ◌∙◌}
use Rattle.std.proofs.lemmas.Bool.{lt-ltb, le-ltb}
use Rattle.std.proofs.lemmas.Result.{err_from_is_err_and}
use Rattle.ag_record.specs.Reading.{pages_at}
use Rattle.ag_record.proofs.Loop.{goes_on, ends, ends_page, ends_order, is_done}
use Rattle.ag_record.proofs.decoding.pages_of.Goals as goal

pub returns-in_err-page : goal.returns-in_err-page
returns-in_err-page c =
    let p = err_from_is_err_and c.from_residual-in_err-page.result c.from_residual-in_err-page.ensures.1 in
    rw (p.1, p.2) (ends c.in_err-page.field-0.0 c.loop.pages.items c.loop.low c.args.count c.loop.counter c.loop.rest.now (pages_at 0 c.args.count c.args.b.now) c.loop-test.true c.in_err-page.ensures c.loop.invariant)

pub returns-then-not-is_page : goal.returns-then-not-is_page
returns-then-not-is_page c = ends_page c.loop.pages.items c.loop.low c.args.count c.loop.counter c.loop.rest.now c.in_ok-page.page c.in_ok-page.after.now (pages_at 0 c.args.count c.args.b.now) c.loop-test.true c.in_ok-page.ensures (sym c.is_page.ensures ∙ c.if-not-is_page.true) c.loop.invariant

pub returns-then-page-low : goal.returns-then-page-low
returns-then-page-low c = ends_order c.loop.pages.items c.loop.low c.args.count c.loop.counter c.loop.rest.now c.in_ok-page.page c.in_ok-page.after.now (pages_at 0 c.args.count c.args.b.now) c.loop-test.true c.in_ok-page.ensures (sym c.is_page.ensures ∙ c.if-not-is_page.false) (le-ltb _ _ c.if-page-low.true) c.loop.invariant

pub loop-preserved : goal.loop-preserved
loop-preserved c =
    rw c.in_ok-push.ensures.items (goes_on c.loop.pages.items c.loop.low c.args.count c.loop.counter c.loop.rest.now c.in_ok-page.page c.in_ok-page.after.now (pages_at 0 c.args.count c.args.b.now) c.loop-test.true c.in_ok-page.ensures (sym c.is_page.ensures ∙ c.if-not-is_page.false) (lt-ltb _ _ c.if-page-low.false) c.loop.invariant)

pub returns : goal.returns
returns c = is_done c.loop.pages.items c.loop.low c.args.count c.loop.counter c.loop.rest.now (pages_at 0 c.args.count c.args.b.now) c.loop-test.false c.loop.invariant
