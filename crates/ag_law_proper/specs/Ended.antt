-- Where a transaction ends in a log.
use Rattle.std.specs.Prelude.{◌≡◌, ℕ, List, false, Bool}
use Rattle.std.specs.List.{list_any}
use Rattle.ag_model.specs.declared.record.Record.{Record}
use Rattle.ag_model.specs.declared.record.Record.TheVariants.{Commit, Abort}
use Rattle.ag_model.specs.Rows.{contains}
use Rattle.ag_model.specs.Txns.{txn_of, pages_of}

-- whether a record is of a transaction
abbrev pub is_of : ℕ → Record → Bool
is_of txn r = contains txn (txn_of r)

-- the transaction has no record after its end, which lists the pages that it touched before
abbrev pub IsEndBetween : ℕ → List Record → ℕ → List ℕ → List Record → Type 0
IsEndBetween pages front txn listed back = (list_any (is_of txn) back ≡ false) × (listed ≡ pages_of pages txn front)

-- a record in its place
abbrev pub EndPlace : ℕ → List Record → Record → List Record → Type 0
EndPlace pages front (Commit txn listed) back = IsEndBetween pages front txn listed back
EndPlace pages front (Abort txn listed) back = IsEndBetween pages front txn listed back
EndPlace pages front _ back = Unit {0}
