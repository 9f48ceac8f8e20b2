use Rattle.std.proofs.Common.{◌<◌, ◌∙◌, ap, set, length, arith}
use Rattle.ag_pool.specs.Frames.{empty_frame, forgotten}
use Rattle.ag_pool.proofs.Pools.{each-more}
use Rattle.ag_pool.proofs.pool.forget_frames.Goals as goal

pub loop-frame-preserved : goal.loop-frame-preserved
loop-frame-preserved c =
    let i = c.loop-frame.frame-index in
    let lt : i < length c.args.frames.now.items = omega (arith, c.loop-frame-test.true, c.deref_mut-frame-items.ensures.len) in
    ap (set c.loop-frame.frame-items i) c.empty_frame.ensures ∙ each-more forgotten c.args.frames.now.items c.loop-frame.frame-items i empty_frame lt c.loop-frame.invariant
