-- When each event keeps a property of logs.
use Rattle.std.specs.Prelude.{ℕ, ◌≤◌, List, []}
use Rattle.ag_model.specs.declared.record.Record.{Record}
use Rattle.ag_model.specs.Starts.{last_term}
use Rattle.ag_laws.specs.Prefix.{IsPrefixOf}
use Rattle.ag_law_proper.specs.Growth.{Lead, Steps, first_lead, promoted_lead}

-- what R says of each log, and W of what a primary leads with: it holds at first, and goes on in each step and in each promotion
pub record Law (pages : ℕ) (R : List Record → Type 0) (W : Lead → Type 0) : Type 0 where
  pub none : R []
  pub shorter : (a b : List Record) → IsPrefixOf a b → R b → R a
  pub log : (x : Lead) → W x → R x.log
  pub first : W first_lead
  pub steps : (a b : Lead) → Steps pages a b → W a → W b
  pub takes : (term : ℕ) (log : List Record) → last_term log ≤ term → R log → W (promoted_lead pages term log)
