-- From the value of a page before a record of the log to its value after that record.
use Rattle.std.specs.Prelude.{◌≡◌, ℕ, ◌-◌, ◌≤◌, List, true, Some, slice_get}
use Rattle.std.specs.List.{AllByRecursion}
use Rattle.ag_model.specs.declared.value.Change.{Change}
use Rattle.ag_model.specs.declared.value.Change.TheVariants.{Put as PutChange, Del as DelChange}
use Rattle.ag_model.specs.declared.value.PageValue.{PageValue}
use Rattle.ag_model.specs.declared.record.Record.{Record}
use Rattle.ag_model.specs.declared.record.Record.TheVariants.{Put, Del}
use Rattle.ag_model.specs.Rows.{touches}
use Rattle.ag_model.specs.Page.{numbered, value}
use Rattle.ag_model.specs.Proper.{IsRecordOf}

-- each record is what a record of a proper log is, where there are so many pages
abbrev pub AreProper : ℕ → List Record → Type 0
AreProper pages log = AllByRecursion (λ r. IsRecordOf pages log r.0 r.1) (numbered log)

-- the record of this LSN is this one
abbrev pub IsAt : List Record → ℕ → Record → Type 0
IsAt log lsn r = (1 ≤ lsn) × (slice_get log (lsn - 1) ≡ Some r)

-- the record that makes this change
abbrev pub record_of : ℕ → ℕ → Change → Record
record_of txn key (PutChange value) = Put txn key value
record_of txn key DelChange = Del txn key

-- the page has its value before this record of the log, which touches it
pub record IsDue (pages : ℕ) (log : List Record) (lsn : ℕ) (r : Record) (v : PageValue) : Type 0 where
  pub proper : AreProper pages log
  pub here : IsAt log lsn r
  pub touched : touches pages v.page r ≡ true
  pub before : v ≡ value pages log (lsn - 1) v.page

-- where the page had its value before this record of a log, it now has its value after it
abbrev pub Redoes : ℕ → Record → PageValue → PageValue → Type 0
Redoes lsn r old new = (pages : ℕ) (log : List Record) → IsDue pages log lsn r old → new ≡ value pages log lsn old.page
