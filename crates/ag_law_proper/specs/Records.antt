-- The records of a proper log.
use Rattle.std.specs.Prelude.{ℕ, List}
use Rattle.std.specs.List.{AllByRecursion}
use Rattle.ag_model.specs.declared.record.Record.{Record}
use Rattle.ag_model.specs.Page.{numbered}
use Rattle.ag_model.specs.Proper.{IsRecordOf}

-- each record of the log meets what a record of a proper log meets, where there are so many pages
abbrev pub RecordsAreProper : ℕ → List Record → Type 0
RecordsAreProper pages log = AllByRecursion (λ r. IsRecordOf pages log r.0 r.1) (numbered log)
