use Rattle.ag_page.proofs.Sectors.{cut_more, cut_all}
use Rattle.ag_page.proofs.image.cut.Goals as goal

pub loop-i-preserved : goal.loop-i-preserved
loop-i-preserved c = cut_more c.args.mark c.loop-i.i c.args.bytes.now _ c.loop-i.out c.loop-i-test.true c.sector.ensures c.loop-i.invariant

pub returns : goal.returns
returns c = cut_all c.args.mark c.args.bytes.now c.loop-i.out c.loop-i.i c.loop-i-test.false c.loop-i.invariant
