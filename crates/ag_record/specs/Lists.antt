-- Bytes that are no records.
use Rattle.std.specs.Prelude.{◌≡◌, ℕ, ◌≤◌, List, ◌++◌, length, take, Err}
use Rattle.ag_model.specs.declared.record.Record.{Record}
use Rattle.ag_record.specs.declared.fault.RecordFault.{RecordFault}
use Rattle.ag_record.specs.declared.fault.RecordFault.TheVariants.{NoMemory}
use Rattle.ag_record.specs.Spelling.{records_spelling, HaveSpelling}
use Rattle.ag_record.specs.Reading.{reading}

-- some records, and after them bytes that begin no record, by this fault
pub record StopsAt (bytes : List ℕ) (fault : RecordFault) : Type 0 where
  pub records : List Record
  pub rest : List ℕ
  pub fits : HaveSpelling records
  pub parts : bytes ≡ records_spelling records ++ rest
  pub some : 1 ≤ length rest
  pub stops : reading rest ≡ Err fault

-- memory may run out, and any other fault is where the bytes stop being records
abbrev pub MayFail : List ℕ → RecordFault → Type 0
MayFail bytes NoMemory = Unit {0}
MayFail bytes fault = StopsAt bytes fault

-- the first list stands at the front of the second
abbrev pub Begins : List ℕ → List ℕ → Type 0
Begins xs ys = take (length xs) ys ≡ xs
