use Rattle.std.proofs.lemmas.Result.{err_from_is_err_and}
use Rattle.ag_page.specs.Reading.{versions_at}
use Rattle.ag_page.proofs.Loops.{goes_on, ends, is_done}
use Rattle.ag_page.proofs.reading.versions_in.Goals as goal

pub returns-in_err-version : goal.returns-in_err-version
returns-in_err-version c =
    let p = err_from_is_err_and c.from_residual.result c.from_residual.ensures.1 in
    rw (p.1, p.2) (ends c.in_err-version.field-0.0 c.loop.versions.items c.args.count c.loop.counter c.loop.rest.now (versions_at c.args.count c.args.b.now) c.loop-test.true c.in_err-version.ensures c.loop.invariant)

pub loop-preserved : goal.loop-preserved
loop-preserved c =
    rw c.in_ok-push.ensures.items (goes_on c.loop.versions.items c.args.count c.loop.counter c.loop.rest.now c.in_ok-version.version c.in_ok-version.after.now (versions_at c.args.count c.args.b.now) c.loop-test.true c.in_ok-version.ensures c.loop.invariant)

pub returns : goal.returns
returns c = is_done c.loop.versions.items c.args.count c.loop.counter c.loop.rest.now (versions_at c.args.count c.args.b.now) c.loop-test.false c.loop.invariant
