-- How much of a log that was told stands in another one.
use Rattle.std.specs.Prelude.{ℕ, ◌≤◌, List, length, take}
use Rattle.ag_model.specs.declared.record.Record.{Record}
use Rattle.ag_laws.specs.Prefix.{IsPrefixOf}

-- so many records that were told begin the log
abbrev pub IsKnown : List Record → List Record → ℕ → Type 0
IsKnown told log f = (f ≤ length told) × IsPrefixOf (take f told) log

-- however the log goes on, no more of what was told begins it than this
abbrev pub AtMost : List Record → List Record → ℕ → Type 0
AtMost told log most = (grown : List Record) → IsPrefixOf log grown → (f : ℕ) → IsKnown told grown f → f ≤ most

-- however the log goes on, what begins it of the first begins it of the second
abbrev pub Covers : List Record → List Record → List Record → Type 0
Covers first second log = (grown : List Record) → IsPrefixOf log grown → (f : ℕ) → IsKnown first grown f → IsKnown second grown f
