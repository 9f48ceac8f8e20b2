use Rattle.std.proofs.Common.{None}
use Rattle.std.proofs.lemmas.Result.{err_from_is_err_and}
use Rattle.ag_wire.specs.Reading.{starts_at}
use Rattle.ag_wire.proofs.Loop.{goes_on, ends, is_done}
use Rattle.ag_wire.proofs.fields.starts_of.Goals as goal

pub returns-in_err-start : goal.returns-in_err-start
returns-in_err-start c =
    let p = err_from_is_err_and c.from_residual-in_err-start.result c.from_residual-in_err-start.ensures.1 in
    rw (p.1, p.2) (ends c.in_err-start.field-0.0 c.loop.starts.items c.loop.last c.args.count c.loop.counter c.loop.rest.now (starts_at None c.args.count c.args.b.now) c.loop-test.true c.in_err-start.ensures c.loop.invariant)

pub loop-preserved : goal.loop-preserved
loop-preserved c =
    rw c.in_ok-push.ensures.items (goes_on c.loop.starts.items c.loop.last c.args.count c.loop.counter c.loop.rest.now c.in_ok-start.start c.in_ok-start.after.now (starts_at None c.args.count c.args.b.now) c.loop-test.true c.in_ok-start.ensures c.loop.invariant)

pub returns : goal.returns
returns c = rw c.from_vec.ensures (is_done c.loop.starts.items c.loop.last c.args.count c.loop.counter c.loop.rest.now (starts_at None c.args.count c.args.b.now) c.loop-test.false c.loop.invariant)
