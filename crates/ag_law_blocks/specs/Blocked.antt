-- The blocks of a log.
use Rattle.std.specs.Prelude.{◌≡◌, ℕ, ◌<◌, ◌≤◌, ◌^◌, List, [], ◌∷◌, ◌++◌, length, take, true, None, Some}
use Rattle.std.specs.List.{last_or}
use Rattle.ag_model.specs.declared.record.Record.{Record}
use Rattle.ag_model.specs.declared.record.Record.TheVariants.{Term}
use Rattle.ag_model.specs.declared.record.Log.{Log}
use Rattle.ag_model.specs.Rows.{contains}
use Rattle.ag_model.specs.Proper.{RisesFrom}
use Rattle.ag_model.specs.Sizes.{log_sectors}
use Rattle.ag_rules.specs.Group.{Group, replica}

-- each Term record begins a block: what stands before it ends with a block, or is nothing
abbrev pub TermsBeginBlocks : Log → Type 0
TermsBeginBlocks log = (front : List Record) (term : ℕ) (back : List Record) → log.records ≡ front ++ Term term ∷ back → contains (length front) (0 ∷ log.ends) ≡ true

-- a log in whole blocks, which begins with the first term and has its room on the disk
pub record IsBlocked (log : Log) : Type 0 where
  pub first : take 1 log.records ≡ Term 1 ∷ []
  pub ends : RisesFrom 0 log.ends
  pub last : last_or None log.ends ≡ Some (length log.records)
  pub terms : TermsBeginBlocks log
  pub sectors : log_sectors log ≤ 262144
  -- each record takes at least nine bytes of a block
  pub short : length log.records ≤ 14097521
  pub most : length log.records ≤ 2 ^ 63

-- the hardened log of each replica of the group is in whole blocks, up or down
abbrev pub AreBlocked : Group → Type 0
AreBlocked g = (n : ℕ) → n < length g.replicas → IsBlocked (replica g n).kept.log
