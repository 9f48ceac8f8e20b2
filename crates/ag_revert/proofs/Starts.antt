-- Two lists of term starts, and where their logs part.
use Rattle.std.specs.Prelude.{if◌then◌else◌}
use Rattle.std.proofs.Common.{◌≡◌, ℕ, suc, ◌+◌, ◌-◌, ◌<◌, ◌≤◌, min, List, [], ◌∷◌, length, take, drop, Bool, true, false, inl, inr, ◌⊎◌, refl, ◌∙◌, arith}
use Rattle.std.specs.Prelude.{◌==◌}
use Rattle.std.specs.List.{common_prefix_len}
use Rattle.std.proofs.lemmas.Bool.{and_parts, eqb-true}
use Rattle.std.proofs.lemmas.Bool.Decides.{leb_tells}
use Rattle.std.proofs.lemmas.List.{length-drop, take_all}
use Rattle.std.proofs.lemmas.List.Sums.{common_prefix_len-le}
use Rattle.ag_model.specs.declared.config.TermStart.{TermStart}
use Rattle.ag_model.specs.Starts.{is_same_start, end_before, fork_of_starts}
use Rattle.ag_ends.proofs.Rise.{Rise}
use Rattle.ag_ends.proofs.Forks.{fork_passes}
use Rattle.ag_revert.specs.Shared.{PassCommon}

-- a log parts from one that ends where its starts begin to rise there
pub fork_at_end : (low e : ℕ) (ss : List TermStart) → Rise low e ss → fork_of_starts ss e [] low ≡ low
unfolding fork_of_starts
fork_at_end low e [] p = omega (arith, p)
fork_at_end low e (s ∷ ss) p = omega (arith, p.0)

-- the heads of two lists aren't one start
abbrev pub HeadsPart : List TermStart → List TermStart → Type 0
HeadsPart [] ts = Unit {0}
HeadsPart (s ∷ ss) [] = Unit {0}
HeadsPart (s ∷ ss) (t ∷ ts) = is_same_start s t ≡ false

-- where the next starts aren't the same, the logs part before them
pub fork_stops : (ss ts : List TermStart) (e e2 : ℕ) → HeadsPart ss ts → fork_of_starts ss e ts e2 ≡ min (end_before ss e) (end_before ts e2)
unfolding fork_of_starts
fork_stops [] ts e e2 p = refl
fork_stops (s ∷ ss) [] e e2 p = refl
fork_stops (s ∷ ss) (t ∷ ts) e e2 p = rw p refl

pub le_cases : (x n : ℕ) → (x ≤ n) ⊎ (n < x)
le_cases x n = elim (leb_tells x n) [ inl h ↦ inl h.1 | inr h ↦ inr h.1 ]

-- the LSNs of one more term pass
covers_more : (Passes : ℕ → Type 0) (from e e2 : ℕ) (s t : TermStart) (ss ts : List TermStart)
    → ((n : ℕ) → from ≤ n → n ≤ min (s.lsn - 1) (t.lsn - 1) → Passes n) → (n : ℕ) → from ≤ n → n ≤ fork_of_starts (s ∷ ss) e (t ∷ ts) e2
    → (is_same_start s t ≡ true → s.lsn ≤ n → n ≤ fork_of_starts ss e ts e2 → Passes n) → Passes n
covers_more Passes from e e2 s t ss ts now n low high later = by (is_same_start s t) refl
  where
    by : (b : Bool) → is_same_start s t ≡ b → Passes n
    by true same =
        let lsn : s.lsn ≡ t.lsn = eqb-true s.lsn t.lsn (and_parts (s.term == t.term) (s.lsn == t.lsn) same).1 in
        elim (le_cases s.lsn n) [ inl above ↦ later same above (omega (arith, high, fork_passes s t ss ts e e2 same)) | inr before ↦ now n low (omega (arith, lsn)) ]
    by false apart = now n low (omega (arith, high, fork_stops (s ∷ ss) (t ∷ ts) e e2 apart))

-- all LSNs up to the fork pass, from one on
pub covers : (Passes : ℕ → Type 0) (from e e2 : ℕ) (ss ts : List TermStart)
    → ((n : ℕ) → from ≤ n → n ≤ min (end_before ss e) (end_before ts e2) → Passes n) → PassCommon Passes ss e ts e2
    → (n : ℕ) → from ≤ n → n ≤ fork_of_starts ss e ts e2 → Passes n
covers Passes from e e2 [] ts now later n low high = now n low (omega (arith, high, fork_stops [] ts e e2 tt))
covers Passes from e e2 (s ∷ ss) [] now later n low high = now n low (omega (arith, high, fork_stops (s ∷ ss) [] e e2 tt))
covers Passes from e e2 (s ∷ ss) (t ∷ ts) now later n low high =
    covers_more Passes from e e2 s t ss ts now n low high (λ same above below. covers Passes s.lsn e e2 ss ts (later same).0 (later same).1 n above below)

fork_by_first : (s t : TermStart) (ss ts : List TermStart) (e e2 n : ℕ) → n ≡ (if is_same_start s t then 1 + common_prefix_len is_same_start ss ts else 0)
    → (let m = common_prefix_len is_same_start ss ts in fork_of_starts ss e ts e2 ≡ min (end_before (drop m ss) e) (end_before (drop m ts) e2))
    → fork_of_starts (s ∷ ss) e (t ∷ ts) e2 ≡ min (end_before (drop n (s ∷ ss)) e) (end_before (drop n (t ∷ ts)) e2)
fork_by_first s t ss ts e e2 n p rest = by (is_same_start s t) refl
  where
    by : (b : Bool) → is_same_start s t ≡ b → fork_of_starts (s ∷ ss) e (t ∷ ts) e2 ≡ min (end_before (drop n (s ∷ ss)) e) (end_before (drop n (t ∷ ts)) e2)
    by true same =
        let more : n ≡ suc (common_prefix_len is_same_start ss ts) = p ∙ rw same (omega arith) in
        fork_passes s t ss ts e e2 same ∙ rest ∙ rw more refl
    by false apart =
        let none : n ≡ 0 = p ∙ rw apart refl in
        fork_stops (s ∷ ss) (t ∷ ts) e e2 apart ∙ rw none refl

-- the fork, from where the starts aren't the same any more
pub fork_by_common : (ss ts : List TermStart) (e e2 n : ℕ) → n ≡ common_prefix_len is_same_start ss ts → fork_of_starts ss e ts e2 ≡ min (end_before (drop n ss) e) (end_before (drop n ts) e2)
fork_by_common [] ts e e2 n p = rw p (fork_stops [] ts e e2 tt)
fork_by_common (s ∷ ss) [] e e2 n p = rw p (fork_stops (s ∷ ss) [] e e2 tt)
fork_by_common (s ∷ ss) (t ∷ ts) e e2 n p =
    fork_by_first s t ss ts e e2 n p (fork_by_common ss ts e e2 (common_prefix_len is_same_start ss ts) refl)

-- all from an element on
pub rest_whole : (ss : List TermStart) (n : ℕ) → n ≤ length ss → take (length ss - n) (drop n ss) ≡ drop n ss
rest_whole ss n within = take_all (length ss - n) (drop n ss) (omega (arith, length-drop n ss))

-- where one list has ended no start is common
pub common_none : (ss ts : List TermStart) (i : ℕ) → min (length ss) (length ts) ≤ i → common_prefix_len is_same_start (drop i ss) (drop i ts) ≡ 0
common_none ss ts i past =
    let both = common_prefix_len-le is_same_start (drop i ss) (drop i ts) in
    omega (arith, both.0, both.1, length-drop i ss, length-drop i ts)
