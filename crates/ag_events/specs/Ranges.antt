-- What the words of an event may say.
use Rattle.std.specs.Prelude.{◌≢◌, ◌<◌, ◌≤◌, ◌^◌}
use Rattle.std.specs.List.{AllByRecursion}
use Rattle.ag_model.specs.declared.config.Config.{Config}
use Rattle.ag_model.specs.declared.event.Event.{Event}
use Rattle.ag_model.specs.declared.event.Who.{Who}
use Rattle.ag_model.specs.declared.event.Who.TheVariants.{Letter, Primary}
use Rattle.ag_rules.specs.Script.{IsWho}
use Rattle.ag_script.specs.Words.{Word, Name, Node, Other, Number, Bytes, Mask, IsValue, HasPairs, words_of}

-- `A` to `Z`, or `@`
abbrev pub HasLetter : Who → Type 0
HasLetter (Letter n) = n < 26
HasLetter Primary = Unit {0}

-- a word of a line of this group can say it
abbrev pub IsInRange : Word → Type 0
IsInRange (Name name) = Unit {0}
IsInRange (Node c who) = IsWho c who × HasLetter who
IsInRange (Other c first who) = IsWho c who × HasLetter who × (who ≢ first)
IsInRange (Number low high n) = (low ≤ n) × (n ≤ high) × (n < 2 ^ 64)
IsInRange (Bytes value) = IsValue value
IsInRange (Mask mask) = mask < 2 ^ 64

-- a line of a group of this config can say the event
abbrev pub IsSayable : Config → Event → Type 0
IsSayable c e = AllByRecursion IsInRange (words_of c e) × HasPairs e
