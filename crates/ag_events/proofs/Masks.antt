-- A mask that is printed is read again.
use Rattle.std.proofs.Common.{◌≡◌, ℕ, zero, suc, ◌+◌, ◌-◌, ◌*◌, ◌/◌, ◌%◌, ◌<◌, ◌≤◌, ◌^◌, List, [], ◌∷◌, length, Bool, true, false, cond, leb, eqb, ◌&&◌, Some, None, ap, ◌∙◌, arith, inl, inr}
use Rattle.std.specs.Fmt.{digits, digits_onto, digit_glyph}
use Rattle.std.proofs.Math.Nat.{pow-succ'}
use Rattle.std.proofs.lemmas.Bool.{cases_lt, cases_Bool, eqb-true, eq-eqb, le-ltb, lt-ltb, le-leb, lt-leb, and_from, and_right}
use Rattle.ag_script.specs.Hex.{hex_at, hex_value}

glyph_again : (d : ℕ) → d < 16 → hex_at (digit_glyph false d) ≡ Some d
glyph_again d small = elim (cases_lt d 10) [
  | inl few ↦ (
      let glyph : digit_glyph false d ≡ 48 + d = ap (λ (t : Bool). cond t (48 + d) (87 + d)) (lt-ltb d 10 few) in
      let back : 48 + d - 48 ≡ d = omega arith in
      ap hex_at glyph ∙ ap (λ (t : Bool). cond t (Some (48 + d - 48)) (cond (leb 97 (48 + d) && leb (48 + d) 102) (Some (48 + d - 87)) None)) (and_from (leb 48 (48 + d)) (leb (48 + d) 57) (le-leb 48 (48 + d) (omega arith)) (le-leb (48 + d) 57 (omega arith))) ∙ ap Some back)
  | inr more ↦ (
      let glyph : digit_glyph false d ≡ 87 + d = ap (λ (t : Bool). cond t (48 + d) (87 + d)) (le-ltb d 10 more) in
      let back : 87 + d - 87 ≡ d = omega arith in
      ap hex_at glyph ∙ ap (λ (t : Bool). cond t (Some (87 + d - 48)) (cond (leb 97 (87 + d) && leb (87 + d) 102) (Some (87 + d - 87)) None)) (and_right (leb 48 (87 + d)) (leb (87 + d) 57) (lt-leb (87 + d) 57 (omega arith)))
      ∙ ap (λ (t : Bool). cond t (Some (87 + d - 87)) None) (and_from (leb 97 (87 + d)) (leb (87 + d) 102) (le-leb 97 (87 + d) (omega arith)) (le-leb (87 + d) 102 (omega arith))) ∙ ap Some back)
]

-- after the digits of n the reading goes on from n
digits_again : (k n : ℕ) (acc : List ℕ) → n < 16 ^ k → hex_value 0 (digits_onto k 16 false n acc) ≡ hex_value n acc
digits_again zero n acc few = let none : 0 ≡ n = omega (arith, few) in ap (λ (m : ℕ). hex_value m acc) none
digits_again (suc k) n acc few =
    elim (cases_Bool (eqb (n / 16) 0)) [
      | inl last ↦ (
          let none : n / 16 ≡ 0 = eqb-true _ _ last in
          let whole : 16 * 0 + n % 16 ≡ n = omega (arith, none) in
          rw (last, glyph_again (n % 16) (omega arith)) (ap (λ (m : ℕ). hex_value m acc) whole))
      | inr more ↦ (
          let whole : 16 * (n / 16) + n % 16 ≡ n = omega arith in
          let room : n / 16 < 16 ^ k = (let f : n < 16 * 16 ^ k = (rw pow-succ' at few) in omega (arith, f)) in
          rw more (digits_again k (n / 16) (digit_glyph false (n % 16) ∷ acc) room ∙ rw (glyph_again (n % 16) (omega arith)) (ap (λ (m : ℕ). hex_value m acc) whole)))
    ]

pub mask_read : (mask : ℕ) → mask < 2 ^ 64 → hex_value 0 (digits 16 false mask) ≡ Some mask
unfolding digits
mask_read mask small = digits_again 64 mask [] (omega (arith, small))

-- ---- how many digits there are

longer : (k n : ℕ) (acc : List ℕ) → length acc ≤ length (digits_onto k 16 false n acc)
longer zero n acc = omega arith
longer (suc k) n acc = elim (cases_Bool (eqb (n / 16) 0)) [
  | inl last ↦ rw last (omega arith)
  | inr more ↦ rw more (let h = longer k (n / 16) (digit_glyph false (n % 16) ∷ acc) in omega (arith, h))
]

some_digit : (k n : ℕ) (acc : List ℕ) → 0 < k → length acc < length (digits_onto k 16 false n acc)
some_digit zero n acc some = absurd (omega arith)
some_digit (suc k) n acc some = elim (cases_Bool (eqb (n / 16) 0)) [
  | inl last ↦ rw last (omega arith)
  | inr more ↦ rw more (let h = longer k (n / 16) (digit_glyph false (n % 16) ∷ acc) in omega (arith, h))
]

few_digits : (k i n : ℕ) (acc : List ℕ) → n < 16 ^ suc i → length (digits_onto k 16 false n acc) ≤ suc i + length acc
few_digits zero i n acc few = omega arith
few_digits (suc k) zero n acc few = let none : eqb (n / 16) 0 ≡ true = eq-eqb _ _ (omega (arith, few)) in rw none (omega arith)
few_digits (suc k) (suc i) n acc few = elim (cases_Bool (eqb (n / 16) 0)) [
  | inl last ↦ rw last (omega arith)
  | inr more ↦ rw more (
      let f : n < 16 * 16 ^ suc i = (rw pow-succ' at few) in
      let h = few_digits k i (n / 16) (digit_glyph false (n % 16) ∷ acc) (omega (arith, f)) in
      omega (arith, h))
]

pub mask_some : (mask : ℕ) → 0 < length (digits 16 false mask)
unfolding digits
mask_some mask = some_digit 64 mask [] (omega arith)

pub mask_few : (mask : ℕ) → mask < 2 ^ 64 → length (digits 16 false mask) ≤ 16
unfolding digits
mask_few mask small = few_digits 64 15 mask [] (omega (arith, small))
