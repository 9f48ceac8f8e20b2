-- How the pages of a set change with its bits.
use Rattle.std.proofs.Common.{◌≡◌, ℕ, zero, suc, ◌+◌, ◌-◌, ◌/◌, ◌%◌, ◌<◌, ◌≤◌, inl, inr, List, [], ◌∷◌, length, get_or, set, Bool, true, false, ◌==◌, ◌||◌, refl, sym, ◌∙◌, ap, arith}
use Rattle.std.proofs.lemmas.Bool.Decides.{nat_tests, eqb_tells}
use Rattle.std.proofs.lemmas.List.{get_or-set_other}
use Rattle.std.proofs.lemmas.Grind.{get_or-set_at}
use Rattle.std.proofs.lemmas.Nat.Bits.{bit_at-zero, bit_at-lt, bit_at_set_same, bit_at_set_other, same_from_bits_below}
use Rattle.std.specs.Int.{bit_at}
use Rattle.std.specs.Prelude.{bit_or}
use Rattle.std.proofs.Common.{◌*◌, ◌^◌, w8}
use Rattle.std.specs.List.{filter, list_all, range_with_len}
use Rattle.ag_model.specs.Rows.{contains, page_numbers}
use Rattle.ag_model.specs.PageSets.{most_pages, pages_where, has_bit, IsBitmap}
use Rattle.ag_model.specs.PageBits.{most_pages-is, contains-pages_where, bit_of}

-- two tests that agree on a run of numbers keep the same of them
filter-agrees : (p q : ℕ → Bool) (a n : ℕ) → ((x : ℕ) → a ≤ x → x < a + n → p x ≡ q x) → filter p (range_with_len a n) ≡ filter q (range_with_len a n)
filter-agrees p q a zero agree = refl
filter-agrees p q a (suc n) agree =
    let head : p a ≡ q a = agree a (omega arith) (omega arith) in
    let tail : filter p (range_with_len (a + 1) n) ≡ filter q (range_with_len (a + 1) n) = filter-agrees p q (a + 1) n (λ x l h. agree x (omega arith) (omega arith)) in
    rw (head, tail) refl

-- a test that passes no number of a run keeps none
filter-none : (p : ℕ → Bool) (a n : ℕ) → ((x : ℕ) → p x ≡ false) → filter p (range_with_len a n) ≡ []
filter-none p a zero none = refl
filter-none p a (suc n) none = rw (none a, filter-none p (a + 1) n none) refl

-- a longer run keeps no more, where the test passes nothing from the shorter one's end on
filter-shorter : (p : ℕ → Bool) (a k n : ℕ) → n ≤ k → ((x : ℕ) → a + n ≤ x → p x ≡ false) → filter p (range_with_len a k) ≡ filter p (range_with_len a n)
filter-shorter p a zero zero below none = refl
filter-shorter p a zero (suc n) below none = absurd (omega arith)
filter-shorter p a (suc k) zero below none =
    let rest : filter p (range_with_len (a + 1) k) ≡ [] = filter-shorter p (a + 1) k zero (omega arith) (λ x h. none x (omega arith)) in
    rw (none a (omega arith), rest) refl
filter-shorter p a (suc k) (suc n) below none =
    let rest : filter p (range_with_len (a + 1) k) ≡ filter p (range_with_len (a + 1) n) = filter-shorter p (a + 1) k n (omega arith) (λ x h. none x (omega arith)) in
    rw rest refl

-- a set of the pages of a database that has so many
pub pages_where-below : (p : ℕ → Bool) (pages : ℕ) → pages ≤ 2048 → ((x : ℕ) → 16 + pages ≤ x → p x ≡ false) → pages_where p ≡ filter p (page_numbers pages)
pages_where-below p pages few none =
    let is : most_pages ≡ 2048 = most_pages-is in
    filter-shorter p 16 most_pages pages (omega arith) none

-- tests that agree on all pages give the same set
pub pages_where-agrees : (p q : ℕ → Bool) → ((x : ℕ) → 16 ≤ x → x < 2064 → p x ≡ q x) → pages_where p ≡ pages_where q
pages_where-agrees p q agree =
    let is : most_pages ≡ 2048 = most_pages-is in
    filter-agrees p q 16 most_pages (λ x low high. agree x low (omega arith))

-- a set is the pages that it contains, rising
pub pages_where-contains : (p : ℕ → Bool) → pages_where (λ x. contains x (pages_where p)) ≡ pages_where p
pages_where-contains p = pages_where-agrees (λ x. contains x (pages_where p)) p (λ x low high. contains-pages_where p x low high)

-- each of bytes that are all zero
pub get_or-zeros : (bytes : List ℕ) (i : ℕ) → list_all (λ b. b == 0) bytes ≡ true → get_or bytes i 0 ≡ 0
get_or-zeros [] i zeros = refl
get_or-zeros (b ∷ bs) zero zeros = grind (arith, nat_tests)
get_or-zeros (b ∷ bs) (suc i) zeros = get_or-zeros bs i (grind (arith, nat_tests))

-- bytes that are all zero have no page
pub no_page : (bytes : List ℕ) → list_all (λ b. b == 0) bytes ≡ true → pages_where (has_bit bytes) ≡ []
no_page bytes zeros =
    filter-none (has_bit bytes) 16 most_pages
    (λ x. rw (get_or-zeros bytes ((x - 16) / 8) zeros, bit_at-zero ((x - 16) % 8)) refl)

-- the byte of a page with the page's bit set
abbrev with_page : List ℕ → ℕ → ℕ
with_page bytes page = bit_or (get_or bytes ((page - 16) / 8) 0) (1 * 2 ^ ((page - 16) % 8) % 256)

-- the bit of a page is set, and no other bit changes
pub has_bit-set : (bytes : List ℕ) (page x : ℕ) → length bytes ≡ 256 → 16 ≤ page → page < 2064 → 16 ≤ x → has_bit (set bytes ((page - 16) / 8) (with_page bytes page)) x ≡ ((x == page) || has_bit bytes x)
has_bit-set bytes page x len low high from =
    elim (eqb_tells x page) [
      | inl same ↦
          rw (same.0, same.1, get_or-set_at bytes ((page - 16) / 8) ((page - 16) / 8) (with_page bytes page) 0 refl (omega arith), bit_at_set_same w8 (get_or bytes ((page - 16) / 8) 0) ((page - 16) % 8) (omega arith))
          refl
      | inr other ↦
          elim (eqb_tells ((x - 16) / 8) ((page - 16) / 8)) [
            | inl byte ↦
                rw (other.0, get_or-set_at bytes ((page - 16) / 8) ((x - 16) / 8) (with_page bytes page) 0 byte.1 (omega arith), byte.1, bit_at_set_other w8 (get_or bytes ((page - 16) / 8) 0) ((page - 16) % 8) (omega arith) ((x - 16) % 8) (λ e. other.1 (omega arith)))
                refl
            | inr away ↦ rw (other.0, get_or-set_other bytes ((page - 16) / 8) ((x - 16) / 8) (with_page bytes page) 0 away.1) refl
          ]
    ]

-- a page put into a set
pub with-page : (bytes : List ℕ) (page : ℕ) → length bytes ≡ 256 → 16 ≤ page → page < 2064 → pages_where (has_bit (set bytes ((page - 16) / 8) (with_page bytes page))) ≡ pages_where (λ p. (p == page) || contains p (pages_where (has_bit bytes)))
with-page bytes page len low high =
    pages_where-agrees _ _
    (λ x from to. has_bit-set bytes page x len low high from ∙ sym (ap (λ b. (x == page) || b) (contains-pages_where (has_bit bytes) x from to)))

-- bytes are all zero where each one is
all_zero : (bytes : List ℕ) → ((i : ℕ) → i < length bytes → get_or bytes i 0 ≡ 0) → list_all (λ b. b == 0) bytes ≡ true
all_zero [] each = refl
all_zero (b ∷ bs) each =
    let first : b ≡ 0 = each 0 (omega arith) in
    let rest : list_all (λ b. b == 0) bs ≡ true = all_zero bs (λ i h. each (suc i) (omega arith)) in
    rw (first, rest) refl

none : (pages : List ℕ) (x : ℕ) → length pages ≡ 0 → contains x pages ≡ false
none [] x h = refl
none (p ∷ ps) x h = absurd (omega arith)

-- bytes with no page are all zero
pub zero_where_none : (bytes : List ℕ) → IsBitmap bytes → length (pages_where (has_bit bytes)) ≡ 0 → list_all (λ b. b == 0) bytes ≡ true
zero_where_none bytes h empty =
    all_zero bytes
    (λ i below.
    let small : i < 256 = omega (arith, h.0) in
    same_from_bits_below 8 (get_or bytes i 0) 0 (h.1 i) (omega arith)
    (λ k within.
    let bit : (bit_at (get_or bytes i 0) k == 1) ≡ false = sym (bit_of bytes h i k small within) ∙ none (pages_where (has_bit bytes)) (16 + 8 * i + k) empty in
    rw bit_at-zero (grind (arith, nat_tests, bit, bit_at-lt (get_or bytes i 0) k))))
