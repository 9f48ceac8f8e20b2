use Rattle.std.proofs.Common.{◌∙◌}
use Rattle.ag_node.proofs.RoomUsed.{spend_more}
use Rattle.ag_node.proofs.room.spend.Goals as goal

pub loop-pair-preserved : goal.loop-pair-preserved
loop-pair-preserved c =
    let kept = c.loop-pair.invariant in
    let more = spend_more c.args.pages c.loop-pair.pair-index c.slot_of.result c.pair_size.result c.loop-pair.used c.args.pairs.now _ c.requires.some (c.loop-pair.auto.used ∙ c.requires.each_page) c.loop-pair-test.true c.slot_of.ensures c.pair_size.ensures.size kept.small kept.fits in
    record { after = more.0 ∙ kept.after; fits = more.1; small = more.2 }
