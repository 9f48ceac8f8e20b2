-- Records of whole transactions, each of which was committed.
use Rattle.std.specs.Prelude.{◌≡◌, ℕ, List, Bool, true, false, ◌==◌}
use Rattle.std.specs.List.{list_any, AllByRecursion}
use Rattle.ag_model.specs.declared.record.Record.{Record}
use Rattle.ag_model.specs.declared.record.Record.TheVariants.{Put, Commit, Term}

-- whether a record is the transaction's Commit
abbrev pub is_commit_of : ℕ → Record → Bool
is_commit_of txn (Commit t listed) = txn == t
is_commit_of txn _ = false

-- among these records a Put has its Commit, and there is nothing else but Commits and the start of the first term
abbrev pub IsWholeRecord : List Record → Record → Type 0
IsWholeRecord rs (Put txn key value) = list_any (is_commit_of txn) rs ≡ true
IsWholeRecord rs (Commit txn listed) = Unit {0}
IsWholeRecord rs (Term term) = term ≡ 1
IsWholeRecord rs _ = ⊥

-- the records of whole transactions, and perhaps the start of the first term
abbrev pub IsWhole : List Record → Type 0
IsWhole rs = AllByRecursion (IsWholeRecord rs) rs
