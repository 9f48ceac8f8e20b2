use Rattle.ag_page.proofs.Sectors.{IsJoined}
use Rattle.ag_page.proofs.image.joined.Given as goal

abbrev pub invariant-loop-sector : goal.invariant-loop-sector
invariant-loop-sector l = IsJoined l.image l.sector-index l.at l.bytes
