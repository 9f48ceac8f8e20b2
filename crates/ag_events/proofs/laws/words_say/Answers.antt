use Rattle.ag_script.specs.Words.{words_of}
use Rattle.ag_events.proofs.Spelled.{words_spelled}
use Rattle.ag_events.proofs.laws.words_say.Goals as goal

pub returns : goal.returns
returns c = λ d e h. (words_spelled (words_of d e) h.0, h.1)
