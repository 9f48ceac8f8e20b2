-- The lines of a script.
use Rattle.std.specs.Prelude.{◌≡◌, ◌≢◌, ℕ, ◌+◌, ◌≤◌, ◌⊎◌, List, [], ◌∷◌, ◌++◌, length, ◌==◌}
use Rattle.std.specs.List.{slice_split}
use Rattle.ag_model.specs.declared.config.Config.{Config}
use Rattle.ag_model.specs.declared.event.Event.{Event}
use Rattle.ag_built.specs.Built.{IsBuilt, most_events}
use Rattle.ag_script.specs.Words.{Say}

-- the words of a line, cut at each space
abbrev pub words : List ℕ → List (List ℕ)
words line = slice_split (λ b. b == 32) line

-- the line says this event, which is built
abbrev pub IsLine : Config → List ℕ → Event → Type 0
IsLine c line e = Say c e (words line) × IsBuilt e

-- an empty line, or one that begins with `#`
abbrev pub IsSkipped : List ℕ → Type 0
IsSkipped [] = Unit {0}
IsSkipped (b ∷ line) = b ≡ 35

-- the lines say these events, one by one, but for those that are skipped
abbrev pub AreLines : Config → List (List ℕ) → List Event → Type 0
AreLines c [] es = es ≡ []
AreLines c (line ∷ lines) es = (IsSkipped line × AreLines c lines es) ⊎ ((e : Event) × (others : List Event) × (es ≡ e ∷ others) × IsLine c line e × AreLines c lines others)

-- the lines of a text, each without its end, and last what stands behind the last line's end
abbrev pub parts : List ℕ → List (List ℕ)
parts text = slice_split (λ b. b == 10) text

-- the text is a script of these events: whole lines that say them
pub record IsScriptText (c : Config) (text : List ℕ) (es : List Event) : Type 0 where
  pub lines : List (List ℕ)
  pub whole : parts text ≡ lines ++ [] ∷ []
  pub say : AreLines c lines es
  pub few : length es ≤ most_events

-- a line that is neither skipped nor an event line
pub record IsBad (c : Config) (line : List ℕ) : Type 0 where
  pub not_skipped : IsSkipped line → ⊥
  pub no_event : (e : Event) → IsLine c line e → ⊥

-- the line with so many before it is the first bad one, and there aren't too many events before it
pub record IsFirstBad (c : Config) (text : List ℕ) (before : ℕ) : Type 0 where
  pub lines : List (List ℕ)
  pub line : List ℕ
  pub more : List (List ℕ)
  pub cut : parts text ≡ lines ++ line ∷ more
  pub place : length lines ≡ before
  pub events : List Event
  pub say : AreLines c lines events
  pub few : length events ≤ most_events
  -- a line without its end is bad wherever it isn't empty
  pub bad : (more ≡ [] × (line ≢ [])) ⊎ ((more ≢ []) × IsBad c line)

-- whole lines from the first on have one event too many
pub record IsTooMany (c : Config) (text : List ℕ) : Type 0 where
  pub lines : List (List ℕ)
  pub more : List (List ℕ)
  pub cut : parts text ≡ lines ++ more
  pub whole : more ≢ []
  pub events : List Event
  pub say : AreLines c lines events
  pub many : length events ≡ most_events + 1
