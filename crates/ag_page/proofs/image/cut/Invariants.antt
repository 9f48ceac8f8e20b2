use Rattle.ag_page.proofs.Sectors.{IsCut}
use Rattle.ag_page.proofs.image.cut.Given as goal

abbrev pub invariant-loop-i : goal.invariant-loop-i
invariant-loop-i l = IsCut l.mark l.bytes l.out l.i
