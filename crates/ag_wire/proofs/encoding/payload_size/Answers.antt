use Rattle.std.proofs.Common.{arith}
use Rattle.ag_wire.proofs.Payload.{within_size, whole_size}
use Rattle.ag_wire.proofs.encoding.payload_size.Goals as goal

pub overflow_add-total : goal.overflow_add-total
overflow_add-total c = omega (arith, within_size c.args.records.now c.loop-r.r-index c.loop-r.total c.size-total.result c.r-item.result c.requires c.loop-r-test.true c.loop-r.invariant c.r-item.is c.size-total.ensures)

pub returns : goal.returns
returns c = whole_size c.args.records.now c.loop-r.r-index c.loop-r.total c.requires c.loop-r-test.false c.loop-r.invariant
