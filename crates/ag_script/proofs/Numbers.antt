-- Numbers in text.
use Rattle.std.proofs.Common.{◌≡◌, ◌≢◌, ℕ, List, get_or, true, Result}
use Rattle.std.specs.Str.{all_ascii_digits, IsUtf8}
use Rattle.std.specs.Str.Parse.{digits_value, ParsesUnsigned}
use Rattle.std.specs.Result.{OkIff}
use Rattle.std.proofs.lemmas.Str.Parse.{IsNumeralModel, numerals_by_value, tells_all_ascii_digits, parse_plain}
use Rattle.std.proofs.lemmas.Str.{IsUtf8-from_ascii}
use Rattle.std.proofs.lemmas.Fmt.{IsAscii-from_digits}
use Rattle.ag_script.specs.ReadWord.{IsDigits}

pub numerals : IsNumeralModel (λ ds. all_ascii_digits ds ≡ true) (digits_value 10)
numerals = numerals_by_value (λ ds. all_ascii_digits ds ≡ true) tells_all_ascii_digits

pub digits_are_text : (w : List ℕ) → IsDigits w → IsUtf8 w
digits_are_text w h = IsUtf8-from_ascii w (IsAscii-from_digits w (numerals.to w h.0))

pub parsed : {E : Type 0} (w : List ℕ) (r : Result ℕ E) → ParsesUnsigned 64 10 w r → get_or w 0 0 ≢ 43 → OkIff r (IsDigits w) (digits_value 10 w)
parsed w r h ne = parse_plain numerals 64 w r h ne
