-- What each log of a run has.
use Rattle.std.specs.Prelude.{◌≡◌, ℕ, List, true}
use Rattle.std.specs.List.{AllByRecursion}
use Rattle.ag_model.specs.declared.record.Record.{Record}
use Rattle.ag_rules.specs.Replica.{records, full_log}
use Rattle.ag_rules.specs.Group.{Group, replica}
use Rattle.ag_rules.specs.Run.{Moment}
use Rattle.ag_rules.specs.TermLog.{groups, term_log}

-- the hardened log of each replica, up or down
abbrev pub HardenedHave : (List Record → Type 0) → Group → Type 0
HardenedHave P g = (n : ℕ) → P (records (replica g n))

-- the log of each primary with its buffer
abbrev pub BufferedHave : (List Record → Type 0) → Group → Type 0
BufferedHave P g = (n : ℕ) → (replica g n).leads ≡ true → P (full_log (replica g n))

-- each log of each group of a run, and each log of a term
pub record LogsHave (P : List Record → Type 0) (ms : List Moment) : Type 0 where
  pub hardened : AllByRecursion (HardenedHave P) (groups ms)
  pub buffered : AllByRecursion (BufferedHave P) (groups ms)
  pub terms : (t : ℕ) → P (term_log ms t)
