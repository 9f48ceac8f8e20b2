-- Lemmas: what the bits of a page set say of its pages, and that the pages give their bytes back.
use Rattle.std.proofs.Common.{◌≡◌, ℕ, zero, suc, ◌+◌, ◌-◌, ◌/◌, ◌%◌, ◌<◌, ◌≤◌, inl, inr, List, length, get_or, Bool, true, ◌==◌, ◌&&◌, if◌then◌else◌, refl, sym, ◌∙◌, ap, arith}
use Rattle.std.proofs.lemmas.Bool.{eq-eqb, eqb-true}
use Rattle.std.proofs.lemmas.Bool.Decides.{eqb_tells}
use Rattle.std.proofs.lemmas.List.FromFn.{length-range_with_len, get_or-range_with_len, length-map-range_with_len, get_or-map-range_with_len}
use Rattle.std.proofs.lemmas.List.Folds.{list_any_at}
use Rattle.std.proofs.lemmas.Map.Views.{any-filter_same}
use Rattle.std.proofs.lemmas.List.{ext_get_or}
use Rattle.std.proofs.Math.Nat.{div-div-eq-div-mul}
use Rattle.std.proofs.lemmas.Nat.Bits.{bit_at-lt}
use Rattle.std.specs.Int.{bit_at}
use Rattle.std.proofs.Common.{◌*◌, ◌^◌}
use Rattle.std.specs.List.{fold, range_with_len, sum_by}
use Rattle.ag_model.specs.Rows.{contains, page_numbers}
use Rattle.ag_model.specs.PageSets.{most_pages, pages_where, has_bit, IsBitmap, byte_of, bytes_of}

-- the number of pages
pub most_pages-is : most_pages ≡ 2048
unfolding most_pages
most_pages-is = refl

-- a run of numbers has each number of it
contains-range : (a n x : ℕ) → a ≤ x → x < a + n → contains x (range_with_len a n) ≡ true
contains-range a n x low high =
    list_any_at (λ y. x == y) (range_with_len a n) (x - a) 0
    (rw length-range_with_len (omega arith))
    (eq-eqb x (get_or (range_with_len a n) (x - a) 0) (rw (get_or-range_with_len a n (x - a) 0 (omega arith)) (omega arith)))

-- a page that a set can hold is in it where its test passes
pub contains-pages_where : (p : ℕ → Bool) (x : ℕ) → 16 ≤ x → x < 2064 → contains x (pages_where p) ≡ p x
contains-pages_where p x low high =
    let is : most_pages ≡ 2048 = most_pages-is in
    let all : contains x (page_numbers most_pages) ≡ true = contains-range 16 most_pages x low (omega arith) in
    let kept : contains x (pages_where p) ≡ (p x && contains x (page_numbers most_pages)) = any-filter_same (λ y. x == y) p (p x) (λ y e. ap p (sym (eqb-true x y e))) (page_numbers most_pages) in
    grind (arith, kept, all)

-- a byte by its bits
by_bits : (b : ℕ) → b < 256 → sum_by (λ k. bit_at b k * 2 ^ k) (range_with_len 0 8) ≡ b
by_bits b h =
    omega (
      arith,
      div-div-eq-div-mul b 2 2,
      div-div-eq-div-mul b 4 2,
      div-div-eq-div-mul b 8 2,
      div-div-eq-div-mul b 16 2,
      div-div-eq-div-mul b 32 2,
      div-div-eq-div-mul b 64 2,
      div-div-eq-div-mul b 128 2,
    )

-- what agrees on a run of numbers has the same sum over it
fold-agrees : (f g : ℕ → ℕ) (sum a n : ℕ) → ((x : ℕ) → x < a + n → f x ≡ g x) → fold (λ s x. s + f x) sum (range_with_len a n) ≡ fold (λ s x. s + g x) sum (range_with_len a n)
fold-agrees f g sum a zero agree = refl
fold-agrees f g sum a (suc n) agree =
    let head : f a ≡ g a = agree a (omega arith) in
    ap (λ v. fold (λ s x. s + f x) (sum + v) (range_with_len (a + 1) n)) head ∙ fold-agrees f g (sum + g a) (a + 1) n (λ x h. agree x (omega arith))

-- a bit as a number
weight : (bit k : ℕ) → bit < 2 → (if bit == 1 then 2 ^ k else 0) ≡ bit * 2 ^ k
weight bit k h = elim (eqb_tells bit 1) [ inl one ↦ rw (one.0, one.1) (omega arith) | inr other ↦ let z : bit ≡ 0 = omega arith in rw (other.0, z) (omega arith) ]

module _ (bytes : List ℕ) (h : IsBitmap bytes) where
  -- the bit of a page, by its byte and its place there
  pub bit_of : (i k : ℕ) → i < 256 → k < 8 → contains (16 + 8 * i + k) (pages_where (has_bit bytes)) ≡ (bit_at (get_or bytes i 0) k == 1)
  bit_of i k below small =
      let byte : (16 + 8 * i + k - 16) / 8 ≡ i = omega arith in
      let place : (16 + 8 * i + k - 16) % 8 ≡ k = omega arith in
      contains-pages_where (has_bit bytes) (16 + 8 * i + k) (omega arith) (omega arith) ∙ rw (byte, place) refl

  byte_of-bits : (i : ℕ) → i < 256 → byte_of (pages_where (has_bit bytes)) i ≡ get_or bytes i 0
  byte_of-bits i below =
      fold-agrees (λ k. if contains (16 + 8 * i + k) (pages_where (has_bit bytes)) then 2 ^ k else 0) (λ k. bit_at (get_or bytes i 0) k * 2 ^ k) 0 0 8
      (λ k small. rw (bit_of i k below (omega arith)) (weight (bit_at (get_or bytes i 0) k) k (bit_at-lt (get_or bytes i 0) k)))
      ∙ by_bits (get_or bytes i 0) (h.1 i)

  -- the pages give their bytes back
  pub bytes_of-bits : bytes_of (pages_where (has_bit bytes)) ≡ bytes
  bytes_of-bits =
      let is : most_pages ≡ 2048 = most_pages-is in
      let eighth : most_pages / 8 ≡ 256 = omega arith in
      let len : length (bytes_of (pages_where (has_bit bytes))) ≡ most_pages / 8 = length-map-range_with_len (byte_of (pages_where (has_bit bytes))) 0 (most_pages / 8) in
      ext_get_or 0 (bytes_of (pages_where (has_bit bytes))) bytes (len ∙ eighth ∙ sym h.0)
      (λ i below. let small : i < 256 = omega arith in
      get_or-map-range_with_len (byte_of (pages_where (has_bit bytes))) 0 (most_pages / 8) i i 0 (omega arith) (omega arith) ∙ byte_of-bits i small)
