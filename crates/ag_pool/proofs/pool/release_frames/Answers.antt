use Rattle.std.proofs.Common.{◌<◌, length, arith}
use Rattle.ag_pool.specs.Frames.{released}
use Rattle.ag_pool.proofs.Pools.{each-more}
use Rattle.ag_pool.proofs.pool.release_frames.Goals as goal

pub loop-frame-preserved : goal.loop-frame-preserved
loop-frame-preserved c =
    let i = c.loop-frame.frame-index in
    let lt : i < length c.args.frames.now.items = omega (arith, c.loop-frame-test.true, c.deref_mut-frame-items.ensures.len) in
    each-more released c.args.frames.now.items c.loop-frame.frame-items i c.frame-item.result lt c.loop-frame.invariant
