-- Reading the words of a line from left to right.
use Rattle.std.specs.Prelude.{◌≡◌, ℕ, zero, suc, ◌-◌, ◌^◌, List, [], ◌∷◌, length, codes, Option, Some, None, is_some, nat_lt, if◌then◌else◌}
use Rattle.std.specs.Str.{bytes_eq}
use Rattle.ag_model.specs.declared.event.Pair.{Pair}
use Rattle.ag_model.specs.declared.event.Suffix.{Suffix}
use Rattle.ag_model.specs.declared.event.Suffix.TheVariants.{Whole, Stop, Fail}
use Rattle.ag_script.specs.Hex.{◌>>=◌}
use Rattle.ag_script.specs.ReadWord.{number_at, value_at, mask_at}
use Rattle.ag_script.specs.Lines.{words}
use denote.Ref.{Bor}

-- the words of what is left of a line
abbrev pub words_left : Option (Bor (List ℕ)) → List (List ℕ)
words_left None = []
words_left (Some left) = words left.now

-- what the first word says, and the words after it
abbrev pub word_by : {A : Type 0} → (List ℕ → Option A) → List (List ℕ) → Option (A × List (List ℕ))
word_by f [] = None
word_by f (text ∷ texts) = f text >>= λ x. Some (x, texts)

-- what is returned, with the words that are left, is what reading gives
abbrev pub Reads : {A : Type 0} → Option A → List (List ℕ) → Option (A × List (List ℕ)) → Type 0
Reads None left read = read ≡ None
Reads (Some x) left read = read ≡ Some (x, left)

-- ---- the pairs of a `set`

-- a key
abbrev pub key_by : List (List ℕ) → Option (ℕ × List (List ℕ))
key_by texts = word_by (number_at 0 (2 ^ 32 - 1)) texts

-- a pair for each key that comes next, but not more than so many
abbrev pub some_pairs : ℕ → List (List ℕ) → Option (List Pair × List (List ℕ))
some_pairs zero texts = Some ([], texts)
some_pairs (suc most) texts =
    if is_some (key_by texts) then (key_by texts >>= λ k. word_by value_at k.1 >>= λ v. some_pairs most v.1 >>= λ more. Some (record { key = k.0; value = v.0 } ∷ more.0, more.1)) else Some ([], texts)

-- 1 to 8 pairs
unfoldable pub pairs_at : List (List ℕ) → Option (List Pair × List (List ℕ))
pairs_at texts = some_pairs 8 texts >>= λ x. if nat_lt 0 (length x.0) then Some x else None

-- ---- the suffix

-- this suffix, where no word is left
abbrev pub ended : Suffix → List (List ℕ) → Option Suffix
ended s [] = Some s
ended s (text ∷ texts) = None

-- what follows `stop`
abbrev pub stop_at : List (List ℕ) → Option Suffix
stop_at texts = word_by (number_at 1 (2 ^ 32 - 1)) texts >>= λ w. word_by mask_at w.1 >>= λ mask. ended (Stop w.0 mask.0) mask.1

-- what follows `fail`
abbrev pub fail_at : List (List ℕ) → Option Suffix
fail_at texts = word_by (number_at 1 (2 ^ 32 - 1)) texts >>= λ n. ended (Fail n.0) n.1

-- the suffix, with which the line ends
unfoldable pub suffix_at : List (List ℕ) → Option Suffix
suffix_at [] = Some Whole
suffix_at (text ∷ texts) = if bytes_eq text (codes "stop") then stop_at texts else if bytes_eq text (codes "fail") then fail_at texts else None
