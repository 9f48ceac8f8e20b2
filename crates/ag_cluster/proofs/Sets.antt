-- Sets of replicas by their bits.
use Rattle.std.proofs.Common.{◌≡◌, ℕ, ◌+◌, ◌-◌, ◌*◌, ◌/◌, ◌%◌, ◌^◌, ◌<◌, ◌≤◌, inl, inr, refl, sym, ◌∙◌, ap, subst, arith, w16}
use Rattle.std.specs.Prelude.{bit_and, bit_or}
use Rattle.std.specs.Int.{bit_at, bit_not}
use Rattle.std.specs.Int.Bits.{or_zero_r}
use Rattle.std.proofs.lemmas.Bool.Decides.{eqb_tells}
use Rattle.std.proofs.lemmas.Nat.{and_block, or_block, and_mask, one_shl, pow_pos, pow-add, shr_below, div-add-mod'}
use Rattle.std.proofs.Math.Nat.{mod-lt, mod-eq_of_lt}
use Rattle.std.proofs.Math.Pow.{pow_mono}
use Rattle.std.proofs.lemmas.Nat.Bits.{shr_and_one, and_high_mask}
use Rattle.ag_rules.specs.Group.{with_member, without_member}

-- the bit of a replica
pub shifted : (set n : ℕ) → bit_and (set / 2 ^ n) 1 ≡ bit_at set n
shifted = shr_and_one

-- the lowest bit set
lowest_set : (q : ℕ) → bit_or q 1 ≡ q / 2 * 2 + 1
lowest_set q =
    let split : q ≡ q / 2 * 2 + q % 2 = omega arith in
    let low : q % 2 < 2 = omega arith in
    let bit : (b : ℕ) → b < 2 → bit_or b 1 ≡ 1 = λ b h. elim (eqb_tells b 0) [ inl z ↦ ap (λ x. bit_or x 1) z.1 | inr o ↦ let one : b ≡ 1 = omega arith in ap (λ x. bit_or x 1) one ] in
    ap (λ x. bit_or x 1) split
    ∙ or_block 1 (q / 2) 0 (q % 2) 1 low (omega arith)
    ∙ ap (λ x. x * 2 + bit_or (q % 2) 1) (or_zero_r (q / 2))
    ∙ ap (λ x. q / 2 * 2 + x) (bit (q % 2) low)

-- a set with the bit of a replica
pub bit_set : (set n : ℕ) → n < 16 → bit_or set (1 * 2 ^ n % 2 ^ 16) ≡ with_member set n
bit_set set n below =
    let p : ℕ = 2 ^ n in
    let q : ℕ = set / 2 ^ n in
    let r : ℕ = set % 2 ^ n in
    let parts : q * 2 ^ n + r ≡ set = div-add-mod' set (2 ^ n) in
    let joined : bit_or set (1 * 2 ^ n % 2 ^ 16) ≡ (q / 2 * 2 + 1) * 2 ^ n + r =
    ap (bit_or set) (one_shl n 16 below)
    ∙ ap (λ x. bit_or x (2 ^ n)) (sym parts)
    ∙ ap (bit_or (q * 2 ^ n + r)) (omega arith)
    ∙ or_block n q 1 r 0 (mod-lt set (pow_pos n)) (pow_pos n)
    ∙ ap (λ x. x * 2 ^ n + bit_or r 0) (lowest_set q)
    ∙ ap (λ x. (q / 2 * 2 + 1) * 2 ^ n + x) (or_zero_r r) in
    elim (eqb_tells (q % 2) 1) [
      | inl is ↦
          let odd : q / 2 * 2 + 1 ≡ q = omega (arith, is.1) in
          joined ∙ ap (λ x. x * 2 ^ n + r) odd ∙ parts ∙ rw is.0 refl
      | inr is ↦
          let even : q / 2 * 2 ≡ q = omega (arith, is.1) in
          joined ∙ ap (λ x. (x + 1) * 2 ^ n + r) even ∙ rw is.0 (omega (arith, parts))
    ]

-- the lowest bit cleared, of a number of so many bits
lowest_cleared : (m q : ℕ) → 1 ≤ m → q < 2 ^ m → bit_and q (2 ^ m - 2) ≡ q / 2 * 2
lowest_cleared m q some small = and_high_mask m 1 some q small

-- a set without the bit of a replica
pub bit_cleared : (set n : ℕ) → set < 2 ^ 16 → n < 16 → bit_and set (bit_not w16 (1 * 2 ^ n % 2 ^ 16)) ≡ without_member set n
bit_cleared set n small below =
    let m : ℕ = 16 - n in
    let all : m + n ≡ 16 = omega arith in
    let high : 2 ^ m * 2 ^ n ≡ 65536 = sym (pow-add 2 m n) ∙ ap (λ k. 2 ^ k) all in
    let two : 2 ≤ 2 ^ m = pow_mono {i = 1} {j = m} (omega arith) in
    let d : ℕ = 2 ^ m - 2 in
    let over : d + 2 ≡ 2 ^ m = omega arith in
    let product : (d + 2) * 2 ^ n ≡ 65536 = ap (λ x. x * 2 ^ n) over ∙ high in
    let mask : 65535 - 2 ^ n ≡ d * 2 ^ n + (2 ^ n - 1) = omega (arith, product, pow_pos n) in
    let q : ℕ = set / 2 ^ n in
    let r : ℕ = set % 2 ^ n in
    let parts : q * 2 ^ n + r ≡ set = div-add-mod' set (2 ^ n) in
    let low : r < 2 ^ n = mod-lt set (pow_pos n) in
    let joined : bit_and set (bit_not w16 (1 * 2 ^ n % 2 ^ 16)) ≡ q / 2 * 2 * 2 ^ n + r =
    ap (λ x. bit_and set (65535 - x)) (one_shl n 16 below)
    ∙ ap (λ x. bit_and x (65535 - 2 ^ n)) (sym parts)
    ∙ ap (bit_and (q * 2 ^ n + r)) mask
    ∙ and_block n q d r (2 ^ n - 1) low (omega (arith, pow_pos n))
    ∙ ap (λ x. x * 2 ^ n + bit_and r (2 ^ n - 1)) (lowest_cleared m q (omega arith) (shr_below set m n (subst (λ (k : ℕ). set < 2 ^ k) (sym all) small)))
    ∙ ap (λ x. q / 2 * 2 * 2 ^ n + x) (and_mask r n ∙ mod-eq_of_lt low) in
    elim (eqb_tells (q % 2) 1) [
      | inl is ↦
          let odd : q / 2 * 2 + 1 ≡ q = omega (arith, is.1) in
          let whole : (q / 2 * 2 + 1) * 2 ^ n + r ≡ set = ap (λ x. x * 2 ^ n + r) odd ∙ parts in
          joined ∙ rw is.0 (omega (arith, whole))
      | inr is ↦
          let even : q / 2 * 2 ≡ q = omega (arith, is.1) in
          joined ∙ ap (λ x. x * 2 ^ n + r) even ∙ parts ∙ rw is.0 refl
    ]
