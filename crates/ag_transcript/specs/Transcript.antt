-- The transcript: its header, and a line for each answer.
use Rattle.std.specs.Prelude.{ℕ, List, [], ◌∷◌, ◌++◌, codes}
use Rattle.std.specs.List.{flat_map}
use Rattle.std.specs.Fmt.{decimal}
use Rattle.ag_model.specs.declared.config.Config.{Config}
use Rattle.ag_model.specs.declared.answer.Answer.{Answer}
use Rattle.ag_transcript.specs.Words.{list_text, mode_text}
use Rattle.ag_transcript.specs.Answers.{answer_text}

-- the first line without its end
abbrev pub header_text : Config → List ℕ
header_text c = codes "aglab 1 pages=" ++ decimal c.pages ++ codes " replicas=" ++ list_text mode_text c.modes

-- a line with its end
abbrev pub line : List ℕ → List ℕ
line text = text ++ 10 ∷ []

-- the header, and then the answers, each in a line
abbrev pub transcript : Config → List Answer → List ℕ
transcript c answers = line (header_text c) ++ flat_map (λ a. line (answer_text a)) answers
