-- Reading a record from left to right, with the first fault that is met.
use Rattle.std.specs.Prelude.{◌≡◌, ℕ, zero, suc, ◌-◌, ◌*◌, List, [], ◌∷◌, ◌++◌, length, take, drop, replicate, Bool, Result, Ok, Err, nat_lt, nat_le, ◌==◌, ◌&&◌, if◌then◌else◌}
use Rattle.std.specs.Int.{w16, w32, w64}
use Rattle.ag_model.specs.declared.value.Value.{Value}
use Rattle.ag_model.specs.declared.record.Record.{Record}
use Rattle.ag_model.specs.declared.record.Record.TheVariants.{Put, Del, Commit, Abort, Trim, Term}
use Rattle.ag_record.specs.declared.fault.RecordFault.{RecordFault}
use Rattle.ag_record.specs.declared.fault.RecordFault.TheVariants.{Short, BadKind, BadLength, BadPage, BadOrder, NoMemory}
use Rattle.ag_record.specs.Steps.{◌>>=◌, number_at}

-- memory ran out, or reading meets this fault
abbrev pub Fails : {B : Type 0} → RecordFault → Result B RecordFault → Type 0
Fails NoMemory reading = Unit {0}
Fails fault reading = reading ≡ Err fault

-- memory ran out, or what was answered, seen by `view`, is what reading gives
abbrev pub Gives : {A B : Type 0} → (A → B) → Result A RecordFault → Result B RecordFault → Type 0
Gives view (Ok x) reading = reading ≡ Ok (view x)
Gives view (Err e) reading = Fails e reading

-- memory ran out, or the answer is what reading gives
abbrev pub Answers : {A : Type 0} → Result A RecordFault → Result A RecordFault → Type 0
Answers answer reading = Gives (λ x. x) answer reading

-- the value of these bytes
abbrev pub value_of : List ℕ → Value
value_of text = record { len = length text; bytes = text ++ replicate (64 - length text) 0 }

-- a value in front, and the bytes after it
unfoldable pub value_at : List ℕ → Result (Value × List ℕ) RecordFault
value_at bytes = do
  n ← number_at Short w16 bytes
  if nat_lt 64 n.0 then Err BadLength else if nat_lt (length n.1) n.0 then Err Short else Ok (value_of (take n.0 n.1), drop n.0 n.1)

-- whether a page has this number
abbrev pub is_page : ℕ → Bool
is_page page = nat_le 16 page && nat_le page 2063

-- so many pages, each above the one before, of which the first is above `low`
unfoldable pub pages_at : ℕ → ℕ → List ℕ → Result (List ℕ × List ℕ) RecordFault
pages_at low zero bytes = Ok ([], bytes)
pages_at low (suc n) bytes = do
  page ← number_at Short w16 bytes
  if is_page page.0 then (if nat_lt low page.0 then (pages_at page.0 n page.1 >>= λ others. Ok (page.0 ∷ others.0, others.1)) else Err BadOrder) else Err BadPage

-- how many pages, and the pages
unfoldable pub list_at : List ℕ → Result (List ℕ × List ℕ) RecordFault
list_at bytes = do
  n ← number_at Short w16 bytes
  if nat_le 1 n.0 && nat_le n.0 2048 then (if nat_lt (length n.1) (2 * n.0) then Err Short else pages_at 0 n.0 n.1) else Err BadLength

-- the fields of each kind of record
unfoldable pub put_at : List ℕ → Result (Record × List ℕ) RecordFault
put_at bytes = do
  txn ← number_at Short w64 bytes
  key ← number_at Short w32 txn.1
  value ← value_at key.1
  Ok (Put txn.0 key.0 value.0, value.1)

unfoldable pub del_at : List ℕ → Result (Record × List ℕ) RecordFault
del_at bytes = do
  txn ← number_at Short w64 bytes
  key ← number_at Short w32 txn.1
  Ok (Del txn.0 key.0, key.1)

-- of a Commit or an Abort, which `make` makes
unfoldable pub ending_at : (ℕ → List ℕ → Record) → List ℕ → Result (Record × List ℕ) RecordFault
ending_at make bytes = do
  txn ← number_at Short w64 bytes
  pages ← list_at txn.1
  Ok (make txn.0 pages.0, pages.1)

unfoldable pub trim_at : List ℕ → Result (Record × List ℕ) RecordFault
trim_at bytes = do
  page ← number_at Short w16 bytes
  horizon ← number_at Short w64 page.1
  if is_page page.0 then Ok (Trim page.0 horizon.0, horizon.1) else Err BadPage

unfoldable pub term_at : List ℕ → Result (Record × List ℕ) RecordFault
term_at bytes = do
  term ← number_at Short w64 bytes
  Ok (Term term.0, term.1)

-- the fields of a record of this kind
unfoldable pub fields_at : ℕ → List ℕ → Result (Record × List ℕ) RecordFault
fields_at kind bytes =
    if kind == 1 then put_at bytes else
    if kind == 2 then del_at bytes else
    if kind == 3 then ending_at Commit bytes else
    if kind == 4 then ending_at Abort bytes else
    if kind == 5 then trim_at bytes else
    if kind == 6 then term_at bytes else Err BadKind

-- a record in front, and the bytes after it
unfoldable pub record_at : List ℕ → Result (Record × List ℕ) RecordFault
record_at [] = Err Short
record_at (kind ∷ bytes) = fields_at kind bytes

-- a record in front, and its length
abbrev pub reading : List ℕ → Result (Record × ℕ) RecordFault
reading bytes = record_at bytes >>= λ x. Ok (x.0, length bytes - length x.1)
