-- The least member that passes a test.
use Rattle.std.proofs.Common.{◌≡◌, ℕ, zero, suc, ◌+◌, ◌<◌, ◌≤◌, List, [], ◌∷◌, Bool, true, false, inl, inr, refl, ap, ◌∙◌, arith}
use Rattle.std.specs.List.{filter, range_with_len}
use Rattle.std.proofs.lemmas.Bool.Decides.{eqb_tells, nat_tests}
use Rattle.ag_rules.specs.Group.{has}
use Rattle.ag_rules.specs.AckEvent.{is_late}
use Rattle.ag_capture.specs.Captured.{Captured, peer_of}
use Rattle.ag_capture.specs.Late.{late_among}

-- tests that agree on a run of numbers keep the same of them
pub filter-agrees : (p q : ℕ → Bool) (a n : ℕ) → ((x : ℕ) → p x ≡ q x) → filter p (range_with_len a n) ≡ filter q (range_with_len a n)
filter-agrees p q a zero agree = refl
filter-agrees p q a (suc n) agree =
    let head : p a ≡ q a = agree a in
    let tail : filter p (range_with_len (a + 1) n) ≡ filter q (range_with_len (a + 1) n) = filter-agrees p q (a + 1) n agree in
    rw (head, tail) refl

-- a test that passes no number of a run keeps none
pub filter-none : (p : ℕ → Bool) (a n : ℕ) → ((x : ℕ) → a ≤ x → x < a + n → p x ≡ false) → filter p (range_with_len a n) ≡ []
filter-none p a zero none = refl
filter-none p a (suc n) none =
    let head : p a ≡ false = none a (omega arith) (omega arith) in
    let tail : filter p (range_with_len (a + 1) n) ≡ [] = filter-none p (a + 1) n (λ x low high. none x (omega arith) (omega arith)) in
    rw (head, tail) refl

-- a longer run keeps no more, where the test passes nothing from the shorter one's end on
pub filter-shorter : (p : ℕ → Bool) (a k n : ℕ) → n ≤ k → ((x : ℕ) → a + n ≤ x → p x ≡ false) → filter p (range_with_len a k) ≡ filter p (range_with_len a n)
filter-shorter p a zero zero below none = refl
filter-shorter p a zero (suc n) below none = absurd (omega arith)
filter-shorter p a (suc k) zero below none = filter-none p a (suc k) (λ x low high. none x (omega arith))
filter-shorter p a (suc k) (suc n) below none =
    let rest : filter p (range_with_len (a + 1) k) ≡ filter p (range_with_len (a + 1) n) = filter-shorter p (a + 1) k n (omega arith) (λ x h. none x (omega arith)) in
    rw rest refl

-- the first number that passes is the first that is kept
pub filter-first : (p : ℕ → Bool) (a n m : ℕ) → a ≤ m → m < a + n → p m ≡ true → ((x : ℕ) → x < m → p x ≡ false) → (rest : List ℕ) × (filter p (range_with_len a n) ≡ m ∷ rest)
filter-first p a zero m low high passes none = absurd (omega arith)
filter-first p a (suc n) m low high passes none = elim (eqb_tells a m) [
  | inl is ↦
      let head : p a ≡ true = ap p is.1 ∙ passes in
      (filter p (range_with_len (a + 1) n), rw head (ap (λ x. x ∷ filter p (range_with_len (a + 1) n)) is.1))
  | inr is ↦
      let head : p a ≡ false = none a (omega arith) in
      let tail : (rest : List ℕ) × (filter p (range_with_len (a + 1) n) ≡ m ∷ rest) = filter-first p (a + 1) n m (omega arith) (omega arith) passes none in
      (tail.0, rw head tail.1)
]

module _ (c : Captured) (lsn synced : ℕ) where
  -- the first late member is the first of the list
  pub late_first : (m : ℕ) → m < 16 → is_late c.peers lsn synced m ≡ true → ((k : ℕ) → k < m → is_late c.peers lsn synced k ≡ false) → (rest : List ℕ) × (late_among c lsn synced ≡ m ∷ rest)
  unfolding late_among
  late_first m small late none = filter-first (is_late c.peers lsn synced) 0 16 m (omega arith) (omega arith) late none

  -- nobody is late
  pub late_none : ((k : ℕ) → k < 16 → is_late c.peers lsn synced k ≡ false) → late_among c lsn synced ≡ []
  unfolding late_among
  late_none none = filter-none (is_late c.peers lsn synced) 0 16 (λ x low high. none x (omega arith))

  -- who is late
  pub late_is : (m : ℕ) → has synced m ≡ true → (peer_of c m).hardened < lsn → is_late c.peers lsn synced m ≡ true
  late_is m member below = grind (arith, nat_tests)
