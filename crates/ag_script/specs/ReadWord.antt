-- Reading one word.
use Rattle.std.specs.Prelude.{◌≡◌, ℕ, ◌+◌, ◌-◌, ◌*◌, ◌^◌, ◌<◌, List, [], ◌∷◌, ◌++◌}
use Rattle.std.specs.Prelude.{length, replicate, codes, Option, Some, None, nat_lt, nat_le, ◌==◌, ◌&&◌, ◌||◌, if◌then◌else◌, Bool, true, false, not, get_or}
use Rattle.std.specs.Str.{all_ascii_digits, bytes_eq}
use Rattle.std.specs.Str.Parse.{digits_value}
use Rattle.ag_model.specs.declared.config.Config.{Config}
use Rattle.ag_model.specs.declared.value.Value.{Value}
use Rattle.ag_model.specs.declared.event.Who.{Who}
use Rattle.ag_model.specs.declared.event.Who.TheVariants.{Letter, Primary}
use Rattle.ag_script.specs.Hex.{◌>>=◌, hex_at, hex_value}

-- a replica of the group, or its primary
abbrev pub who_at : Config → List ℕ → Option Who
who_at c [] = None
who_at c (b ∷ []) = if b == 64 then Some Primary else if nat_le 65 b && nat_lt b (65 + length c.modes) then Some (Letter (b - 65)) else None
who_at c (b ∷ d ∷ more) = None

-- whether two words name replicas by the same letter
abbrev pub is_same : Who → Who → Bool
is_same (Letter n) (Letter m) = n == m
is_same (Letter n) Primary = false
is_same Primary (Letter m) = false
is_same Primary Primary = true

-- the same, where the word isn't the first one's
abbrev pub other_at : Config → Who → List ℕ → Option Who
other_at c first text = who_at c text >>= λ who. if is_same who first then None else Some who

-- digits, of which the first is a zero only where it is the one
abbrev pub is_number : List ℕ → Bool
is_number text = all_ascii_digits text && nat_lt 0 (length text) && (nat_lt (length text) 2 || not (get_or text 0 0 == 48))

-- digits that write a number of 64 bits
abbrev pub IsDigits : List ℕ → Type 0
IsDigits text = (all_ascii_digits text ≡ true) × (0 < length text) × (digits_value 10 text < 2 ^ 64)

-- a number from low to high
abbrev pub number_at : ℕ → ℕ → List ℕ → Option ℕ
number_at low high text = if is_number text && nat_lt (digits_value 10 text) (2 ^ 64) && nat_le low (digits_value 10 text)
    && nat_le (digits_value 10 text) high then Some (digits_value 10 text) else None

-- a mask of 1 to 16 hex digits
abbrev pub mask_at : List ℕ → Option ℕ
mask_at text = if nat_lt 0 (length text) && nat_le (length text) 16 then hex_value 0 text else None

-- the bytes that pairs of hex digits write
abbrev pub bytes_at : List ℕ → Option (List ℕ)
bytes_at [] = Some []
bytes_at (a ∷ []) = None
bytes_at (a ∷ b ∷ more) = hex_at a >>= λ x. hex_at b >>= λ y. bytes_at more >>= λ bytes. Some ((16 * x + y) ∷ bytes)

-- the value of these bytes
abbrev pub padded_value : List ℕ → Value
padded_value bytes = record { len = length bytes; bytes = bytes ++ replicate (64 - length bytes) 0 }

-- a value of 1 to 64 bytes, or the empty one
abbrev pub value_at : List ℕ → Option Value
value_at text = if bytes_eq text (codes "-") then Some (padded_value []) else bytes_at text >>= λ bytes. if nat_lt 0 (length bytes) && nat_le (length bytes) 64 then Some (padded_value bytes) else None
