-- Reading bytes step by step.
use Rattle.std.specs.Prelude.{◌≡◌, ℕ, List, length, take, drop, Result, Ok, Err, nat_lt, if◌then◌else◌}
use Rattle.std.specs.Int.{Width, byte_len, from_be_bytes}

infixl 10 ◌>>=◌
-- the second step reads on where the first one ended, unless that met a fault
abbrev pub ◌>>=◌ : {A B F : Type 0} → Result A F → (A → Result B F) → Result B F
(Ok x) >>= f = f x
(Err e) >>= f = Err e

-- a number in front, the highest byte first, and the bytes after it; or this fault, where a byte is missing
abbrev pub number_at : {F : Type 0} → F → Width → List ℕ → Result (ℕ × List ℕ) F
number_at short w bytes = if nat_lt (length bytes) (byte_len w) then Err short else Ok (from_be_bytes w (take (byte_len w) bytes), drop (byte_len w) bytes)

-- what was answered, seen by `view`, is what reading gives, or its fault
abbrev pub GivesExactly : {A B F : Type 0} → (A → B) → Result A F → Result B F → Type 0
GivesExactly view (Ok x) reading = reading ≡ Ok (view x)
GivesExactly view (Err e) reading = reading ≡ Err e
