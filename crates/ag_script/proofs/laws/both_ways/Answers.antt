use Rattle.ag_script.proofs.LineTakes.{line_takes}
use Rattle.ag_script.proofs.LineAgain.{line_again, one_said}
use Rattle.ag_script.proofs.laws.both_ways.Goals as goal

pub returns : goal.returns
returns c = record { takes = line_takes; again = line_again; one = one_said }
