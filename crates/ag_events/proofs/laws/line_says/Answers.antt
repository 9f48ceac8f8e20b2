use Rattle.ag_script.specs.Lines.{words}
use Rattle.ag_script.proofs.LineAgain.{one_said}
use Rattle.ag_events.specs.Texts.{event_text}
use Rattle.ag_events.proofs.PrintedLines.{line_says}
use Rattle.ag_events.proofs.laws.line_says.Goals as goal

pub returns-clause-says : goal.returns-clause-says
returns-clause-says c = λ d e h. line_says d e h

pub returns-clause-only : goal.returns-clause-only
returns-clause-only c = λ g d e h said. one_said g (words (event_text e)) d e said (line_says g e h)
