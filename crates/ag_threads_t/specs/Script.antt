-- A log of transactions that each put a value of two bytes.
use Rattle.std.specs.Prelude.{◌≡◌, ℕ, ◌+◌, ◌*◌, ◌≤◌, List, [], ◌∷◌, length}
use Rattle.std.specs.List.{sum_by}
use Rattle.ag_model.specs.declared.record.Log.{Log}
use Rattle.ag_model.specs.declared.record.Record.{Record}
use Rattle.ag_model.specs.declared.record.Record.TheVariants.{Put, Del, Commit, Abort, Trim, Term}
use Rattle.ag_model.specs.declared.value.Value.{Value}
use Rattle.ag_model.specs.Rows.{page_of}

-- what one transaction of the script puts
pub record Write : Type 0 where
  pub key : ℕ
  pub value : Value

-- the records of the transaction that comes after n others
abbrev pub records_of_one : ℕ → Write → List Record
records_of_one n w = Put (n + 1) w.key w.value ∷ Commit (n + 1) (page_of 16 w.key ∷ []) ∷ []

-- the records of these transactions after n others
abbrev pub records_of : ℕ → List Write → List Record
records_of n [] = []
records_of n (w ∷ ws) = Put (n + 1) w.key w.value ∷ Commit (n + 1) (page_of 16 w.key ∷ []) ∷ records_of (n + 1) ws

-- where their blocks end
abbrev pub ends_of : ℕ → List Write → List ℕ
ends_of n [] = []
ends_of n (w ∷ ws) = (2 * n + 3) ∷ ends_of (n + 1) ws

-- the log of a script
abbrev pub log_of : List Write → Log
log_of ws = record { records = Term 1 ∷ records_of 0 ws; ends = 1 ∷ ends_of 0 ws }

-- what these records put
abbrev pub writes_of : List Record → List Write
writes_of [] = []
writes_of (Put t key v ∷ rs) = record { key = key; value = v } ∷ writes_of rs
writes_of (Del t key ∷ rs) = writes_of rs
writes_of (Commit t listed ∷ rs) = writes_of rs
writes_of (Abort t listed ∷ rs) = writes_of rs
writes_of (Trim p h ∷ rs) = writes_of rs
writes_of (Term t ∷ rs) = writes_of rs

-- the most that a record adds to a page
abbrev pub most_added : Record → ℕ
most_added (Put t key v) = 30 + v.len
most_added (Del t key) = 30
most_added (Commit t listed) = 0
most_added (Abort t listed) = 0
most_added (Trim p h) = 0
most_added (Term t) = 0

-- a log of so many transactions, each of which puts a value of two bytes
abbrev pub IsScript : ℕ → Log → Type 0
IsScript n log = (length (writes_of log.records) ≡ n) × (log ≡ log_of (writes_of log.records)) × (sum_by most_added log.records ≤ 32 * n)
