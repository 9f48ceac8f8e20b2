-- What a proper log is, block ends aside.
use Rattle.std.specs.Prelude.{◌≡◌, ℕ, ◌^◌, ◌<◌, ◌≤◌, ◌⊎◌, List, [], ◌∷◌, length, take, true}
use Rattle.ag_model.specs.declared.record.Record.{Record}
use Rattle.ag_model.specs.declared.record.Record.TheVariants.{Term}
use Rattle.ag_model.specs.Proper.{RisesFrom, terms, IsProper}
use Rattle.ag_rules.specs.Replica.{full_log}
use Rattle.ag_rules.specs.Group.{Group, replica}
use Rattle.ag_law_proper.specs.Records.{RecordsAreProper}
use Rattle.ag_law_room.specs.Room.{HasRoom}

-- the records of a proper log, where there are so many pages
pub record HasProperRecords (pages : ℕ) (log : List Record) : Type 0 where
  pub first : take 1 log ≡ Term 1 ∷ []
  pub terms : RisesFrom 0 (terms log)
  pub each : RecordsAreProper pages log
  pub room : HasRoom pages log
  pub most : length log ≤ 2 ^ 63

-- the hardened log of each replica, up or down
abbrev pub HardenedAreProper : ℕ → Group → Type 0
HardenedAreProper pages g = (n : ℕ) → n < length g.replicas → IsProper pages (replica g n).kept.log

-- the log of each primary with its buffer
abbrev pub BufferedAreProper : ℕ → Group → Type 0
BufferedAreProper pages g = (n : ℕ) → (replica g n).leads ≡ true → HasProperRecords pages (full_log (replica g n))

-- a log of a term, which has no record where the term never began
abbrev pub IsTermLog : ℕ → List Record → Type 0
IsTermLog pages log = (log ≡ []) ⊎ HasProperRecords pages log
