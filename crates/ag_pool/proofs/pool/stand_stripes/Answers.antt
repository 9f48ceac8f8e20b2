use Rattle.std.proofs.Common.{◌<◌, length, arith}
use Rattle.ag_pool.specs.Frames.{at_lsn}
use Rattle.ag_pool.proofs.Pools.{each-more}
use Rattle.ag_pool.proofs.pool.stand_stripes.Goals as goal

pub loop-stripe-preserved : goal.loop-stripe-preserved
loop-stripe-preserved c =
    let i = c.loop-stripe.stripe-index in
    let lt : i < length c.args.stripes.now.items = omega (arith, c.loop-stripe-test.true, c.deref_mut-stripe-items.ensures.len) in
    each-more (at_lsn c.args.lsn) c.args.stripes.now.items c.loop-stripe.stripe-items i (record { applied = 0; published = 0 }) lt c.loop-stripe.invariant
