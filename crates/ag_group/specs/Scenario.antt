-- What a text is. Its head is empty as yet.
use Rattle.std.specs.Prelude.{◌≡◌, ℕ, ◌+◌, ◌≤◌, List, [], ◌∷◌, ◌++◌, length, codes}
use Rattle.ag_model.specs.declared.config.Config.{Config}
use Rattle.ag_model.specs.declared.config.Mode.TheVariants.{Sync}
use Rattle.ag_model.specs.declared.event.Event.{Event}
use Rattle.ag_script.specs.Lines.{IsScriptText, IsFirstBad, IsTooMany}

-- the config of an empty head
abbrev pub default_config : Config
default_config = record { pages = 16; modes = Sync ∷ Sync ∷ []; workers = 4; readers = 2 }

-- the most bytes that a text may have
abbrev pub most_bytes : ℕ
most_bytes = 16777216

-- the text has an empty head, and then this script
abbrev pub HasScript : List ℕ → List ℕ → Type 0
HasScript text script = text ≡ (codes "---" ++ 10 ∷ []) ++ script

-- the text is the scenario of this config and these events
pub record IsScenario (text : List ℕ) (c : Config) (es : List Event) : Type 0 where
  pub few : length text ≤ most_bytes
  pub script : List ℕ
  pub has : HasScript text script
  pub head : c ≡ default_config
  pub says : IsScriptText c script es

-- the text doesn't begin with an empty head
pub record HasNoHead (text : List ℕ) : Type 0 where
  pub few : length text ≤ most_bytes
  pub none : (script : List ℕ) → HasScript text script → ⊥

-- the first bad line of the text; the line after the head's end has the number 2
pub record HasBadLine (text : List ℕ) (line : ℕ) : Type 0 where
  pub few : length text ≤ most_bytes
  pub script : List ℕ
  pub has : HasScript text script
  pub before : ℕ
  pub place : line ≡ 2 + before
  pub first : IsFirstBad default_config script before

-- there are too many event lines before any bad line
pub record HasTooManyEvents (text : List ℕ) : Type 0 where
  pub few : length text ≤ most_bytes
  pub script : List ℕ
  pub has : HasScript text script
  pub many : IsTooMany default_config script
