-- The bits of a union are those of either set.
use Rattle.std.proofs.Common.{◌≡◌, ℕ, ◌+◌, ◌-◌, ◌/◌, ◌%◌, ◌<◌, ◌≤◌, max, List, length, get_or, set, bit_or, ◌==◌, ◌||◌, inl, inr, sym, ap, ◌∙◌, arith}
use Rattle.std.proofs.lemmas.Bool.Decides.{nat_tests, eqb_tells}
use Rattle.std.proofs.lemmas.List.{get_or-set_other}
use Rattle.std.proofs.lemmas.Grind.{get_or-set_at}
use Rattle.std.proofs.lemmas.Nat.Bits.{bit_at-lt, bit_at_or}
use Rattle.std.specs.Int.{bit_at}
use Rattle.ag_model.specs.Rows.{contains}
use Rattle.ag_model.specs.PageSets.{pages_where, has_bit}
use Rattle.ag_model.specs.PageBits.{contains-pages_where}
use Rattle.ag_model.proofs.PageSets.{pages_where-agrees}
use Rattle.ag_revert.specs.Planned.{union}

either : (x y : ℕ) → x < 2 → y < 2 → (max x y == 1) ≡ ((x == 1) || (y == 1))
either x y p q = grind (arith, nat_tests)

-- the bits of the bytes that are set in either, and so the pages of both
pub pages_of_both : (a b both : List ℕ) → ((i : ℕ) → i < 256 → get_or both i 0 ≡ bit_or (get_or a i 0) (get_or b i 0)) → pages_where (has_bit both) ≡ union (pages_where (has_bit a)) (pages_where (has_bit b))
pages_of_both a b both each =
    pages_where-agrees (has_bit both) (λ p. contains p (pages_where (has_bit a)) || contains p (pages_where (has_bit b)))
    (λ p low high.
    let i = (p - 16) / 8 in
    let k = (p - 16) % 8 in
    ap (λ n. bit_at n k == 1) (each i (omega arith))
    ∙ ap (λ n. n == 1) (bit_at_or (get_or a i 0) (get_or b i 0) k)
    ∙ either (bit_at (get_or a i 0) k) (bit_at (get_or b i 0) k) (bit_at-lt (get_or a i 0) k) (bit_at-lt (get_or b i 0) k)
    ∙ ap (λ c. c || has_bit b p) (sym (contains-pages_where (has_bit a) p low high))
    ∙ ap (λ c. contains p (pages_where (has_bit a)) || c) (sym (contains-pages_where (has_bit b) p low high)))

module _ (bits one other : List ℕ) (i v : ℕ) (within : i < length bits) (is : v ≡ bit_or (get_or bits i 0) (get_or other i 0)) (rest : (j : ℕ) → i ≤ j → get_or bits j 0 ≡ get_or one j 0) where
  -- one more byte
  pub byte_done : ((j : ℕ) → j < i → get_or bits j 0 ≡ bit_or (get_or one j 0) (get_or other j 0)) → (j : ℕ) → j < i + 1 → get_or (set bits i v) j 0 ≡ bit_or (get_or one j 0) (get_or other j 0)
  byte_done done j below = elim (eqb_tells j i) [
    | inl here ↦
        get_or-set_at bits i j v 0 here.1 within ∙ is ∙ ap (λ b. bit_or b (get_or other i 0)) (rest i (omega arith))
        ∙ ap (λ k. bit_or (get_or one k 0) (get_or other k 0)) (sym here.1)
    | inr away ↦ get_or-set_other bits i j v 0 away.1 ∙ done j (omega (arith, away.1))
  ]

  -- and the bytes after it
  pub bytes_left : (j : ℕ) → i + 1 ≤ j → get_or (set bits i v) j 0 ≡ get_or one j 0
  bytes_left j above = get_or-set_other bits i j v 0 (λ e. omega (arith, e)) ∙ rest j (omega arith)
