use Rattle.std.proofs.Common.{arith}
use Rattle.ag_page.proofs.Sectors.{joined_more, joined_all}
use Rattle.ag_page.proofs.image.joined.Goals as goal

pub loop-sector-preserved : goal.loop-sector-preserved
loop-sector-preserved c = joined_more c.args.image.now c.loop-sector.sector-index c.loop-sector.at c.write_at-at.result c.loop-sector.bytes c.write_at-at.new.bytes c.part.result.now _ (omega (arith, c.told-image, c.loop-sector-test.true)) c.part.ensures.bytes c.part.ensures.len c.write_at-at.ensures.place c.write_at-at.ensures.bytes c.loop-sector.invariant

pub returns : goal.returns
returns c = joined_all c.args.image.now c.loop-sector.sector-index c.loop-sector.at c.loop-sector.bytes c.told-image (omega (arith, c.told-image, c.loop-sector-test.false)) (omega (arith, c.told-image, c.loop-sector.auto.sector-index-end)) c.loop-sector.invariant
