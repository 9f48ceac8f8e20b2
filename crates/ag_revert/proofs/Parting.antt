-- Where two logs part is told from their starts, if they share their terms.
use Rattle.std.proofs.Common.{◌≡◌, ℕ, suc, ◌+◌, ◌-◌, ◌<◌, List, [], ◌∷◌, length, true, false, inl, inr, refl, sym, ap, ◌∙◌, subst, arith}
use Rattle.std.specs.Prelude.{Some, slice_get, ◌==◌, ◌&&◌}
use Rattle.std.specs.List.{common_prefix_len}
use Rattle.ag_model.specs.declared.record.Record.{Record}
use Rattle.ag_model.specs.declared.record.Record.TheVariants.{Term}
use Rattle.ag_model.specs.declared.config.TermStart.{TermStart}
use Rattle.ag_model.specs.Starts.{term_starts, fork_of_starts, is_same_record, fork}
use Rattle.ag_lists.proofs.Tests.{if_has}
use Rattle.ag_ends.proofs.Records.{same_record}
use Rattle.ag_ends.specs.Starts.{starts_after}
use Rattle.ag_ends.proofs.Forks.{fork_passes, fork_from, step, low_from, fork_from_start}
use Rattle.ag_ends.proofs.Rise.{rise, first_above}
use Rattle.ag_revert.specs.Shared.{SameAt, PassCommon, ShareTerms}
use Rattle.ag_revert.proofs.Starts.{le_cases, fork_at_end, fork_stops, covers}

module _ (k : ℕ) (x : Record) (a : List Record) (y : Record) (b : List Record) (same : (n : ℕ) → n + k < fork_from k (x ∷ a) (y ∷ b) → slice_get (x ∷ a) n ≡ slice_get (y ∷ b) n) where
  -- they part at once where the first records aren't the same
  apart : is_same_record x y ≡ false → fork_from k (x ∷ a) (y ∷ b) ≡ k
  apart e = elim (le_cases (fork_from k (x ∷ a) (y ∷ b)) k) [
    | inl low ↦ omega (arith, low, low_from k (x ∷ a) (y ∷ b))
    | inr high ↦
        let some : Some x ≡ Some y = same 0 (omega (arith, high)) in
        let one : x ≡ y = cc in
        let yes : is_same_record x y ≡ true = ap (is_same_record x) (sym one) ∙ same_record x in
        absurd (cc)
  ]

  -- and else where their rests do
  heads : (is_same_record x y ≡ true → fork_from (k + 1) a b ≡ k + 1 + common_prefix_len is_same_record a b) → fork_from k (x ∷ a) (y ∷ b) ≡ k + common_prefix_len is_same_record (x ∷ a) (y ∷ b)
  heads rest =
      if_has (λ (n : ℕ). fork_from k (x ∷ a) (y ∷ b) ≡ k + n) (is_same_record x y) (1 + common_prefix_len is_same_record a b) 0
      (λ e. step k x y a b e ∙ rest e ∙ omega arith)
      (λ e. apart e ∙ omega arith)

-- logs that are the same up to where their starts part, part there
fork_is : (k : ℕ) (a b : List Record) → ((n : ℕ) → n + k < fork_from k a b → slice_get a n ≡ slice_get b n) → fork_from k a b ≡ k + common_prefix_len is_same_record a b
fork_is k [] b same =
    omega (arith, fork_stops [] (starts_after k b) (k + 0) (k + length b) tt, first_above k (k + length b) (starts_after k b) (rise k b))
fork_is k (x ∷ a) [] same =
    let zero_more : k + 0 ≡ k = omega arith in
    ap (λ e. fork_of_starts (starts_after k (x ∷ a)) (k + length (x ∷ a)) [] e) zero_more
    ∙ fork_at_end k (k + length (x ∷ a)) (starts_after k (x ∷ a)) (rise k (x ∷ a)) ∙ sym zero_more
fork_is k (x ∷ a) (y ∷ b) same =
    heads k x a y b same (λ e. fork_is (k + 1) a b (λ n h. same (suc n) (omega (arith, h, step k x y a b e))))

-- where the starts of two logs say that they part
abbrev told : List Record → List Record → ℕ
told a b = fork_of_starts (term_starts a) (length a) (term_starts b) (length b)

-- it is where they part, if they share their terms
abbrev IsTold : List Record → List Record → Type 0
IsTold a b = PassCommon (SameAt a b) (term_starts a) (length a) (term_starts b) (length b) → told a b ≡ fork a b

-- two logs that begin with the first term
first_told : (a b : List Record) → IsTold (Term 1 ∷ a) (Term 1 ∷ b)
unfolding fork
first_told a b share =
    let start : TermStart = record { term = 1; lsn = 1 } in
    let ss : List TermStart = starts_after 1 a in
    let ts : List TermStart = starts_after 1 b in
    let e : ℕ = length (Term 1 ∷ a) in
    let e2 : ℕ = length (Term 1 ∷ b) in
    let passed : told (Term 1 ∷ a) (Term 1 ∷ b) ≡ fork_of_starts ss e ts e2 = fork_passes start start ss ts e e2 refl in
    let whole : told (Term 1 ∷ a) (Term 1 ∷ b) ≡ fork_from 0 (Term 1 ∷ a) (Term 1 ∷ b) = sym (fork_from_start (Term 1 ∷ a) (Term 1 ∷ b)) in
    let same : (n : ℕ) → n + 0 < fork_from 0 (Term 1 ∷ a) (Term 1 ∷ b) → slice_get (Term 1 ∷ a) n ≡ slice_get (Term 1 ∷ b) n =
    λ n h.
    let back : n + 1 - 1 ≡ n = omega arith in
    subst (λ (j : ℕ). slice_get (Term 1 ∷ a) j ≡ slice_get (Term 1 ∷ b) j) back
    (covers (SameAt (Term 1 ∷ a) (Term 1 ∷ b)) 1 e e2 ss ts (share refl).0 (share refl).1 (n + 1) (omega arith) (omega (arith, h, passed, whole))) in
    whole ∙ fork_is 0 (Term 1 ∷ a) (Term 1 ∷ b) same ∙ omega arith

-- the fork of two logs that share their terms
pub fork_of_logs : (a b : List Record) → ShareTerms a b → told a b ≡ fork a b
fork_of_logs [] b share = absurd (cc (share.first))
fork_of_logs (x ∷ a) [] share = absurd (cc (share.other_first))
fork_of_logs (x ∷ a) (y ∷ b) share =
    let one : x ≡ Term 1 = cc (share.first) in
    let two : y ≡ Term 1 = cc (share.other_first) in
    subst (λ (r : Record). IsTold (r ∷ a) (y ∷ b)) (sym one) (subst (λ (r : Record). IsTold (Term 1 ∷ a) (r ∷ b)) (sym two) (first_told a b)) share.same
