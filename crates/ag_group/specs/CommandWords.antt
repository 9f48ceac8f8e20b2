-- The words of a command.
use Rattle.std.specs.Prelude.{◌≡◌, List, [], ◌∷◌, map, codes, String, string_bytes}

-- the one word `play`
abbrev pub IsPlay : {A : Type 0} → List (String A) → Type 0
IsPlay words = map string_bytes words ≡ codes "play" ∷ []
