-- The one text that is printed for an event.
use Rattle.std.specs.Prelude.{ℕ, ◌+◌, ◌%◌, List, [], ◌∷◌, ◌++◌, false}
use Rattle.std.specs.Fmt.{decimal, digits}
use Rattle.std.specs.List.{flat_map}
use Rattle.ag_model.specs.declared.config.Config.{Config}
use Rattle.ag_model.specs.declared.event.Event.{Event}
use Rattle.ag_model.specs.declared.event.Who.{Who}
use Rattle.ag_model.specs.declared.event.Who.TheVariants.{Letter, Primary}
use Rattle.ag_script.specs.Words.{Word, Name, Node, Other, Number, Bytes, Mask, value_text, words_of}

-- the letter of a replica, `A` for the first, or `@`
abbrev pub who_byte : Who → ℕ
who_byte (Letter n) = (65 + n) % 256
who_byte Primary = 64

-- a word as it is printed; a mask has no leading zeros
abbrev pub word_text : Word → List ℕ
word_text (Name name) = name
word_text (Node c who) = who_byte who ∷ []
word_text (Other c first who) = who_byte who ∷ []
word_text (Number low high n) = decimal n
word_text (Bytes value) = value_text value
word_text (Mask mask) = digits 16 false mask

-- words, each with a space before it
abbrev pub tail_text : List Word → List ℕ
tail_text [] = []
tail_text (word ∷ words) = 32 ∷ word_text word ++ tail_text words

-- words with a space between them
abbrev pub line_text : List Word → List ℕ
line_text [] = []
line_text (word ∷ words) = word_text word ++ tail_text words

-- a group without replicas: the text of a word is the same in every group
abbrev pub no_group : Config
no_group = record { pages = 0; modes = []; workers = 0; readers = 0 }

-- the line of an event, without its end
abbrev pub event_text : Event → List ℕ
event_text e = line_text (words_of no_group e)

-- events, each in a line with its end
abbrev pub script_text : List Event → List ℕ
script_text es = flat_map (λ e. event_text e ++ 10 ∷ []) es
