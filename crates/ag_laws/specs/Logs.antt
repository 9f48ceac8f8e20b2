-- The logs of the terms.
use Rattle.std.specs.Prelude.{◌≡◌, ℕ, ◌<◌, ◌≤◌, List, [], take}
use Rattle.ag_model.specs.declared.config.Config.{Config}
use Rattle.ag_model.specs.declared.record.Record.{Record}
use Rattle.ag_model.specs.Starts.{last_term}
use Rattle.ag_laws.specs.Prefix.{IsPrefixOf}

-- the log of each term
abbrev pub Logs : Type 0
Logs = ℕ → List Record

-- the group's configuration, the store's term now, and the replica that the store made primary of each term
pub record Setting : Type 0 where
  pub config : Config
  pub now : ℕ
  pub leader : ℕ → ℕ

-- each beginning of this log is a beginning of the log of its own last term
abbrev pub IsTraced : Logs → List Record → Type 0
IsTraced logs log = (n : ℕ) → IsPrefixOf (take n log) (logs (last_term (take n log)))

-- the logs of the terms: each is traced, no record is of a later term, and a term to come has none
pub record AreLogs (s : Setting) (logs : Logs) : Type 0 where
  pub traced : (t : ℕ) → IsTraced logs (logs t)
  pub bounded : (t n : ℕ) → last_term (take n (logs t)) ≤ t
  pub future : (t : ℕ) → s.now < t → logs t ≡ []
  pub none : logs 0 ≡ []
  pub some : 0 < s.now
