-- Logs that have the same records in each term that they share.
use Rattle.std.specs.Prelude.{◌≡◌, ◌≤◌, ℕ, ◌-◌, min, List, [], ◌∷◌, length, take, slice_get, true}
use Rattle.ag_model.specs.declared.record.Record.{Record}
use Rattle.ag_model.specs.declared.record.Record.TheVariants.{Term}
use Rattle.ag_model.specs.declared.config.TermStart.{TermStart}
use Rattle.ag_model.specs.Starts.{term_starts, is_same_start, end_before}

-- two logs have the same record at an LSN
abbrev pub SameAt : List Record → List Record → ℕ → Type 0
SameAt a b lsn = slice_get a (lsn - 1) ≡ slice_get b (lsn - 1)

-- the LSNs of each common start's term, as far as both logs have the term, pass
abbrev pub PassCommon : (ℕ → Type 0) → List TermStart → ℕ → List TermStart → ℕ → Type 0
PassCommon Passes [] end others other_end = Unit {0}
PassCommon Passes (s ∷ ss) end [] other_end = Unit {0}
PassCommon Passes (s ∷ ss) end (t ∷ ts) other_end =
    is_same_start s t ≡ true → ((lsn : ℕ) → s.lsn ≤ lsn → lsn ≤ min (end_before ss end) (end_before ts other_end) → Passes lsn) × PassCommon Passes ss end ts other_end

-- both logs begin with the first term, and in each term that both start at the same LSN they have the same records, as far
-- as both have it
pub record ShareTerms (a b : List Record) : Type 0 where
  pub first : take 1 a ≡ Term 1 ∷ []
  pub other_first : take 1 b ≡ Term 1 ∷ []
  pub same : PassCommon (SameAt a b) (term_starts a) (length a) (term_starts b) (length b)
