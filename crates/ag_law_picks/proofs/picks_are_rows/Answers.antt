use Rattle.ag_law_picks.proofs.Picks.{pick-is}
use Rattle.ag_law_picks.proofs.picks_are_rows.Goals as goal

pub returns : goal.returns
returns c = pick-is
