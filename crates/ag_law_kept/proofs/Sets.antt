-- Sets of replicas with one more member, and with one less.
use Rattle.std.proofs.Common.{◌≡◌, ℕ, zero, suc, ◌+◌, ◌-◌, ◌*◌, ◌/◌, ◌%◌, ◌^◌, true, inl, inr, ◌⊎◌, refl, sym, ap, ◌∙◌, arith, pow-suc, shr-shr, div-one}
use Rattle.std.proofs.lemmas.Bool.{eqb-true, eqb-false, eq-eqb}
use Rattle.ag_rules.specs.Group.{has, with_member, without_member}
use Rattle.ag_lists.proofs.Tests.{if_has}

-- the bit of a replica
abbrev pub bit : ℕ → ℕ → ℕ
bit set n = (set / 2 ^ n) % 2

pub bit_zero : (set : ℕ) → bit set 0 ≡ set % 2
bit_zero set = ap (λ x. x % 2) (div-one set)

pub bit_more : (set n : ℕ) → bit set (suc n) ≡ bit (set / 2) n
bit_more set n = let one : suc n ≡ 1 + n = omega arith in ap (λ k. (set / 2 ^ k) % 2) one ∙ ap (λ x. x % 2) (sym (shr-shr set 1 n))

pub pow_more : (n : ℕ) → 2 ^ suc n ≡ 2 ^ n * 2
pow_more n = pow-suc 2 n

-- with one more bit
added : (m k set : ℕ) → bit set m ≡ 0 → bit (set + 2 ^ m) k ≡ 1 → (k ≡ m) ⊎ (bit set k ≡ 1)
added zero zero set low e = inl refl
added zero (suc k) set low e =
    let even : set % 2 ≡ 0 = sym (bit_zero set) ∙ low in
    let half : (set + 2 ^ 0) / 2 ≡ set / 2 = omega (arith, even) in
    inr (bit_more set k ∙ ap (λ x. bit x k) (sym half) ∙ sym (bit_more (set + 2 ^ 0) k) ∙ e)
added (suc m) zero set low e =
    let even : (set + 2 ^ suc m) % 2 ≡ set % 2 = ap (λ x. (set + x) % 2) (pow_more m) ∙ omega arith in
    inr (bit_zero set ∙ sym even ∙ sym (bit_zero (set + 2 ^ suc m)) ∙ e)
added (suc m) (suc k) set low e =
    let half : (set + 2 ^ suc m) / 2 ≡ set / 2 + 2 ^ m = ap (λ x. (set + x) / 2) (pow_more m) ∙ omega arith in
    elim (added m k (set / 2) (sym (bit_more set m) ∙ low) (ap (λ x. bit x k) (sym half) ∙ sym (bit_more (set + 2 ^ suc m) k) ∙ e)) [
      | inl same ↦ inl (ap suc same)
      | inr old ↦ inr (bit_more set k ∙ old)
    ]

-- with one less
removed : (m k set : ℕ) → bit set m ≡ 1 → bit (set - 2 ^ m) k ≡ 1 → bit set k ≡ 1
removed zero zero set high e = high
removed zero (suc k) set high e =
    let odd : set % 2 ≡ 1 = sym (bit_zero set) ∙ high in
    let half : (set - 2 ^ 0) / 2 ≡ set / 2 = omega (arith, odd) in
    bit_more set k ∙ ap (λ x. bit x k) (sym half) ∙ sym (bit_more (set - 2 ^ 0) k) ∙ e
removed (suc m) zero set high e =
    let low : (set - 2 ^ m * 2) % 2 ≡ 1 = ap (λ x. (set - x) % 2) (sym (pow_more m)) ∙ sym (bit_zero (set - 2 ^ suc m)) ∙ e in
    bit_zero set ∙ omega (arith, low)
removed (suc m) (suc k) set high e =
    let half : (set - 2 ^ suc m) / 2 ≡ set / 2 - 2 ^ m = ap (λ x. (set - x) / 2) (pow_more m) ∙ omega arith in
    bit_more set k ∙ removed m k (set / 2) (sym (bit_more set m) ∙ high) (ap (λ x. bit x k) (sym half) ∙ sym (bit_more (set - 2 ^ suc m) k) ∙ e)

-- a member of a set with one more was one, or is the new one
pub member_added : (set m k : ℕ) → has (with_member set m) k ≡ true → (k ≡ m) ⊎ (has set k ≡ true)
member_added set m k =
    if_has (λ (s : ℕ). has s k ≡ true → (k ≡ m) ⊎ (has set k ≡ true)) (has set m) set (set + 2 ^ m)
    (λ _ e. inr e)
    (λ f e. elim (added m k set (omega (arith, eqb-false (bit set m) 1 f)) (eqb-true (bit (set + 2 ^ m) k) 1 e)) [ inl same ↦ inl same | inr old ↦ inr (eq-eqb (bit set k) 1 old) ])

-- a member of a set with one less was one
pub member_removed : (set m k : ℕ) → has (without_member set m) k ≡ true → has set k ≡ true
member_removed set m k =
    if_has (λ (s : ℕ). has s k ≡ true → has set k ≡ true) (has set m) (set - 2 ^ m) set
    (λ t e. eq-eqb (bit set k) 1 (removed m k set (eqb-true (bit set m) 1 t) (eqb-true (bit (set - 2 ^ m) k) 1 e)))
    (λ _ e. e)

-- the empty set has no member
pub none_member : (k : ℕ) → has 0 k ≡ true → ⊥
none_member k e = let is : bit 0 k ≡ 1 = eqb-true (bit 0 k) 1 e in no_bit k is
  where
    no_bit : (k : ℕ) → bit 0 k ≡ 1 → ⊥
    no_bit zero e = absurd (omega (arith, e, bit_zero 0))
    no_bit (suc k) e = no_bit k (sym (bit_more 0 k) ∙ e)
