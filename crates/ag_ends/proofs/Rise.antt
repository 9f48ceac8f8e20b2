-- The LSNs of term starts rise.
use Rattle.std.proofs.Common.{◌≡◌, ℕ, ◌+◌, ◌<◌, ◌≤◌, List, [], ◌∷◌, length, refl, subst, arith}
use Rattle.std.specs.Prelude.{if◌then◌else◌, nat_le}
use Rattle.std.specs.List.{fold}
use Rattle.std.proofs.lemmas.Bool.{leb-true}
use Rattle.ag_model.specs.declared.config.TermStart.{TermStart}
use Rattle.ag_model.specs.declared.record.Record.{Record}
use Rattle.ag_model.specs.declared.record.Record.TheVariants.{Put, Del, Commit, Abort, Trim, Term}
use Rattle.ag_model.specs.Starts.{end_before}
use Rattle.ag_lists.proofs.Tests.{if_has}
use Rattle.ag_ends.specs.Starts.{starts_after}

-- starts rise above low, and none is above high
abbrev pub Rise : ℕ → ℕ → List TermStart → Type 0
Rise low high [] = low ≤ high
Rise low high (s ∷ ss) = (low < s.lsn) × Rise s.lsn high ss

pub rise_lower : (low low2 high : ℕ) (ss : List TermStart) → low2 ≤ low → Rise low high ss → Rise low2 high ss
rise_lower low low2 high [] h p = omega arith
rise_lower low low2 high (s ∷ ss) h p = (omega (arith, p.0), p.1)

pub rise_le : (low high : ℕ) (ss : List TermStart) → Rise low high ss → low ≤ high
rise_le low high [] p = p
rise_le low high (s ∷ ss) p = omega (arith, p.0, rise_le s.lsn high ss p.1)

-- those of records after an LSN
pub rise : (k : ℕ) (log : List Record) → Rise k (k + length log) (starts_after k log)
rise k [] = omega arith
rise k (Term t ∷ log) = (omega arith, subst (λ (h : ℕ). Rise (k + 1) h (starts_after (k + 1) log)) (omega arith) (rise (k + 1) log))
rise k (Put t key v ∷ log) = rise_lower (k + 1) k _ _ (omega arith) (subst (λ (h : ℕ). Rise (k + 1) h (starts_after (k + 1) log)) (omega arith) (rise (k + 1) log))
rise k (Del t key ∷ log) = rise_lower (k + 1) k _ _ (omega arith) (subst (λ (h : ℕ). Rise (k + 1) h (starts_after (k + 1) log)) (omega arith) (rise (k + 1) log))
rise k (Commit t ps ∷ log) = rise_lower (k + 1) k _ _ (omega arith) (subst (λ (h : ℕ). Rise (k + 1) h (starts_after (k + 1) log)) (omega arith) (rise (k + 1) log))
rise k (Abort t ps ∷ log) = rise_lower (k + 1) k _ _ (omega arith) (subst (λ (h : ℕ). Rise (k + 1) h (starts_after (k + 1) log)) (omega arith) (rise (k + 1) log))
rise k (Trim p h ∷ log) = rise_lower (k + 1) k _ _ (omega arith) (subst (λ (h : ℕ). Rise (k + 1) h (starts_after (k + 1) log)) (omega arith) (rise (k + 1) log))

-- the log ends a term no earlier than the starts begin to rise
pub first_above : (low high : ℕ) (ss : List TermStart) → Rise low high ss → low ≤ end_before ss high
first_above low high [] p = p
first_above low high (s ∷ ss) p = omega (arith, p.0)

-- the term at an LSN after one start more
abbrev pub term_with : ℕ → ℕ → TermStart → ℕ
term_with last term s = if nat_le s.lsn last then s.term else term

-- starts above an LSN change no term there
pub none_above : (last d low high : ℕ) (ss : List TermStart) → last ≤ low → Rise low high ss → fold (term_with last) d ss ≡ d
none_above last d low high [] h p = refl
none_above last d low high (s ∷ ss) h p =
    if_has (λ (x : ℕ). fold (term_with last) x ss ≡ d) (nat_le s.lsn last) s.term d
    (λ t. absurd (omega (arith, leb-true s.lsn last t, p.0)))
    (λ _. none_above last d s.lsn high ss (omega (arith, p.0)) p.1)
