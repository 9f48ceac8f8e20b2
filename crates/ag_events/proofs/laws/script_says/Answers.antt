use Rattle.ag_script.proofs.Outcomes.{one_script}
use Rattle.ag_events.specs.Texts.{script_text}
use Rattle.ag_events.proofs.PrintedLines.{script_says}
use Rattle.ag_events.proofs.laws.script_says.Goals as goal

pub returns-clause-says : goal.returns-clause-says
returns-clause-says c = λ d es h few. script_says d es h few

pub returns-clause-only : goal.returns-clause-only
returns-clause-only c = λ g ds es h few said. one_script g (script_text es) ds es said (script_says g es h few)
