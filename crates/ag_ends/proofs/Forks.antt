-- Where the starts of two logs say that they part.
use Rattle.std.proofs.Common.{◌≡◌, ℕ, suc, ◌+◌, ◌≤◌, List, [], ◌∷◌, length, true, refl, ap, ◌∙◌, arith}
use Rattle.std.specs.Prelude.{◌==◌}
use Rattle.std.proofs.lemmas.Bool.{and_from}
use Rattle.ag_model.specs.declared.record.Record.{Record}
use Rattle.ag_model.specs.declared.record.Record.TheVariants.{Put, Del, Commit, Abort, Trim, Term}
use Rattle.ag_model.specs.declared.config.TermStart.{TermStart}
use Rattle.ag_model.specs.Starts.{term_starts, is_same_start, fork_of_starts, is_same_record}
use Rattle.ag_lists.proofs.Tests.{if_has}
use Rattle.ag_ends.specs.Starts.{starts_after}
use Rattle.ag_ends.proofs.Rise.{Rise, rise_lower, rise, first_above}
use Rattle.ag_ends.proofs.Records.{same_number}

-- logs whose starts rise above an LSN don't part below it
pub fork_above : (low e e2 : ℕ) (ss ts : List TermStart) → Rise low e ss → Rise low e2 ts → low ≤ fork_of_starts ss e ts e2
unfolding fork_of_starts
fork_above low e e2 [] ts p q = omega (arith, p, first_above low e2 ts q)
fork_above low e e2 (s ∷ ss) [] p q = omega (arith, p.0, q)
fork_above low e e2 (s ∷ ss) (t ∷ ts) p q =
    if_has (λ (f : ℕ). low ≤ f) (is_same_start s t) _ _
    (λ _. fork_above low e e2 ss ts (rise_lower s.lsn low e ss (omega (arith, p.0)) p.1) (rise_lower t.lsn low e2 ts (omega (arith, q.0)) q.1))
    (λ _. omega (arith, p.0, q.0))

-- a start that is the same in both is passed
pub fork_passes : (s t : TermStart) (ss ts : List TermStart) (e e2 : ℕ) → is_same_start s t ≡ true → fork_of_starts (s ∷ ss) e (t ∷ ts) e2 ≡ fork_of_starts ss e ts e2
unfolding fork_of_starts
fork_passes s t ss ts e e2 p = rw p refl

-- where two logs part, whose first records come after LSN k
abbrev pub fork_from : ℕ → List Record → List Record → ℕ
fork_from k a b = fork_of_starts (starts_after k a) (k + length a) (starts_after k b) (k + length b)

-- of whole logs
pub fork_from_start : (a b : List Record) → fork_from 0 a b ≡ fork_of_starts (term_starts a) (length a) (term_starts b) (length b)
fork_from_start a b =
    let one : 0 + length a ≡ length a = omega arith in
    let two : 0 + length b ≡ length b = omega arith in
    ap (λ e. fork_of_starts (term_starts a) e (term_starts b) (0 + length b)) one ∙ ap (λ e. fork_of_starts (term_starts a) (length a) (term_starts b) e) two

pub low_from : (k : ℕ) (a b : List Record) → k ≤ fork_from k a b
low_from k a b = fork_above k (k + length a) (k + length b) (starts_after k a) (starts_after k b) (rise k a) (rise k b)

-- the ends from one record later
later_ends : (k n m : ℕ) (ss ts : List TermStart) → fork_of_starts ss (k + suc n) ts (k + suc m) ≡ fork_of_starts ss (k + 1 + n) ts (k + 1 + m)
later_ends k n m ss ts =
    let one : k + suc n ≡ k + 1 + n = omega arith in
    let two : k + suc m ≡ k + 1 + m = omega arith in
    ap (λ e. fork_of_starts ss e ts (k + suc m)) one ∙ ap (λ e. fork_of_starts ss (k + 1 + n) ts e) two

-- two logs that begin with the same record part where their rests do
pub step : (k : ℕ) (x y : Record) (a b : List Record) → is_same_record x y ≡ true → fork_from k (x ∷ a) (y ∷ b) ≡ fork_from (k + 1) a b
step k (Put t key v) (Put u l w) a b e = later_ends k (length a) (length b) (starts_after (k + 1) a) (starts_after (k + 1) b)
step k (Del t key) (Del u l) a b e = later_ends k (length a) (length b) (starts_after (k + 1) a) (starts_after (k + 1) b)
step k (Commit t ps) (Commit u qs) a b e = later_ends k (length a) (length b) (starts_after (k + 1) a) (starts_after (k + 1) b)
step k (Abort t ps) (Abort u qs) a b e = later_ends k (length a) (length b) (starts_after (k + 1) a) (starts_after (k + 1) b)
step k (Trim p h) (Trim q i) a b e = later_ends k (length a) (length b) (starts_after (k + 1) a) (starts_after (k + 1) b)
step k (Term t) (Term u) a b e =
    fork_passes (record { term = t; lsn = k + 1 }) (record { term = u; lsn = k + 1 }) (starts_after (k + 1) a) (starts_after (k + 1) b) (k + suc (length a)) (k + suc (length b))
    (and_from (t == u) (k + 1 == k + 1) e (same_number (k + 1)))
    ∙ later_ends k (length a) (length b) (starts_after (k + 1) a) (starts_after (k + 1) b)
step k _ _ a b e = absurd (cc)
