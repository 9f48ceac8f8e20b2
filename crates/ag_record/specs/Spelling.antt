-- The one spelling of a record.
use Rattle.std.specs.Prelude.{◌≡◌, ℕ, ◌-◌, ◌^◌, ◌<◌, ◌≤◌, List, ◌∷◌, ◌++◌, length, take, drop, replicate}
use Rattle.std.specs.List.{flat_map, AllByRecursion}
use Rattle.std.specs.Int.{w16, w32, w64, to_be_bytes}
use Rattle.ag_model.specs.declared.value.Value.{Value}
use Rattle.ag_model.specs.declared.record.Record.{Record}
use Rattle.ag_model.specs.declared.record.Record.TheVariants.{Put, Del, Commit, Abort, Trim, Term}
use Rattle.ag_model.specs.Proper.{RisesFrom}

-- a value's length and its bytes
abbrev pub value_spelling : Value → List ℕ
value_spelling v = to_be_bytes w16 v.len ++ take v.len v.bytes

-- how many pages, and each of them
abbrev pub pages_spelling : List ℕ → List ℕ
pages_spelling pages = to_be_bytes w16 (length pages) ++ flat_map (to_be_bytes w16) pages

-- the bytes of a record: its kind, and its fields
abbrev pub spelling : Record → List ℕ
spelling (Put txn key value) = 1 ∷ (to_be_bytes w64 txn ++ to_be_bytes w32 key ++ value_spelling value)
spelling (Del txn key) = 2 ∷ (to_be_bytes w64 txn ++ to_be_bytes w32 key)
spelling (Commit txn listed) = 3 ∷ (to_be_bytes w64 txn ++ pages_spelling listed)
spelling (Abort txn listed) = 4 ∷ (to_be_bytes w64 txn ++ pages_spelling listed)
spelling (Trim page horizon) = 5 ∷ (to_be_bytes w16 page ++ to_be_bytes w64 horizon)
spelling (Term term) = 6 ∷ to_be_bytes w64 term

-- the bytes of some records, one after the other
abbrev pub records_spelling : List Record → List ℕ
records_spelling rs = flat_map spelling rs

-- a value of at most 64 bytes, with zeros after them
pub record IsValue (v : Value) : Type 0 where
  pub room : length v.bytes ≡ 64
  pub most : v.len ≤ 64
  pub zeros : drop v.len v.bytes ≡ replicate (64 - v.len) 0

-- the number of a page of data
abbrev pub IsPage : ℕ → Type 0
IsPage page = (16 ≤ page) × (page ≤ 2063)

-- the pages that a Commit or an Abort may list
pub record ArePages (pages : List ℕ) : Type 0 where
  pub least : 1 ≤ length pages
  pub most : length pages ≤ 2048
  pub each : AllByRecursion IsPage pages
  pub rising : RisesFrom 0 pages

-- a record that can be written
abbrev pub HasSpelling : Record → Type 0
HasSpelling (Put txn key value) = (txn < 2 ^ 64) × (key < 2 ^ 32) × IsValue value
HasSpelling (Del txn key) = (txn < 2 ^ 64) × (key < 2 ^ 32)
HasSpelling (Commit txn listed) = (txn < 2 ^ 64) × ArePages listed
HasSpelling (Abort txn listed) = (txn < 2 ^ 64) × ArePages listed
HasSpelling (Trim page horizon) = IsPage page × (horizon < 2 ^ 64)
HasSpelling (Term term) = term < 2 ^ 64

-- records that can be written
abbrev pub HaveSpelling : List Record → Type 0
HaveSpelling rs = AllByRecursion HasSpelling rs

-- records that take 1 to 15488 bytes
pub record ArePayload (records : List Record) : Type 0 where
  pub fit : HaveSpelling records
  pub least : 1 ≤ length (records_spelling records)
  pub most : length (records_spelling records) ≤ 15488
