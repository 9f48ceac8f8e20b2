-- Hex digits.
use Rattle.std.specs.Prelude.{ℕ, ◌+◌, ◌-◌, ◌*◌, ◌/◌, ◌%◌, List, [], ◌∷◌, Option, Some, None, nat_le, ◌&&◌, if◌then◌else◌, false}
use Rattle.std.specs.Fmt.{digit_glyph}

infixl 10 ◌>>=◌
-- what comes of the value, if there is one
abbrev pub ◌>>=◌ : {A B : Type 0} → Option A → (A → Option B) → Option B
None >>= f = None
(Some x) >>= f = f x

-- what a lower-case hex digit says
abbrev pub hex_at : ℕ → Option ℕ
hex_at b = if nat_le 48 b && nat_le b 57 then Some (b - 48) else if nat_le 97 b && nat_le b 102 then Some (b - 87) else None

-- the number that hex digits write after a number
abbrev pub hex_value : ℕ → List ℕ → Option ℕ
hex_value n [] = Some n
hex_value n (b ∷ bs) = hex_at b >>= λ d. hex_value (16 * n + d) bs

-- the two lower-case hex digits of a byte
abbrev pub hex_pair : ℕ → List ℕ
hex_pair b = digit_glyph false (b / 16) ∷ digit_glyph false (b % 16) ∷ []
