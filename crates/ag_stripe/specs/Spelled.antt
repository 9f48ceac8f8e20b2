-- Records whose values have spellings.
use Rattle.std.specs.Prelude.{◌≡◌, List, true}
use Rattle.std.specs.List.{AllByRecursion}
use Rattle.ag_model.specs.declared.record.Record.{Record}
use Rattle.ag_model.specs.declared.record.Record.TheVariants.{Put, Del, Commit, Abort, Trim, Term}
use Rattle.ag_model.specs.declared.value.Change.TheVariants.{Put as PutChange}
use Rattle.ag_page.specs.Spelling.{has_spelling}

-- the value of a Put has at most 64 bytes, and zeros after them
abbrev pub IsSpelled : Record → Type 0
IsSpelled (Put txn key value) = has_spelling (PutChange value) ≡ true
IsSpelled (Del txn key) = Unit {0}
IsSpelled (Commit txn listed) = Unit {0}
IsSpelled (Abort txn listed) = Unit {0}
IsSpelled (Trim page horizon) = Unit {0}
IsSpelled (Term term) = Unit {0}

-- this of each record
abbrev pub AreSpelled : List Record → Type 0
AreSpelled log = AllByRecursion IsSpelled log
