-- Reading a page from left to right.
use Rattle.std.specs.Prelude.{◌≡◌, ℕ, zero, suc, ◌-◌, List, [], ◌∷◌, ◌++◌, length, take, drop, replicate, ◌&&◌, ◌==◌, nat_lt, if◌then◌else◌, Result, Ok, Err}
use Rattle.std.specs.Int.{Width, w16, w32, w64, byte_len, from_be_bytes}
use Rattle.ag_model.specs.declared.value.Value.{Value}
use Rattle.ag_model.specs.declared.value.Change.{Change}
use Rattle.ag_model.specs.declared.value.Change.TheVariants.{Put, Del}
use Rattle.ag_model.specs.declared.value.Version.{Version}
use Rattle.ag_model.specs.declared.value.PageValue.{PageValue}
use Rattle.ag_page.specs.declared.fault.PageFault.{PageFault}
use Rattle.ag_page.specs.declared.fault.PageFault.TheVariants.{NotPage, NoMemory}
use Rattle.ag_page.specs.Spelling.{are_zero, rise}

infixl 10 ◌>>=◌
-- the second step reads on where the first one ended, unless that met a fault
abbrev pub ◌>>=◌ : {A B : Type 0} → Result A PageFault → (A → Result B PageFault) → Result B PageFault
(Ok x) >>= f = f x
(Err e) >>= f = Err e

-- memory ran out, or reading meets this fault
abbrev pub Fails : {B : Type 0} → PageFault → Result B PageFault → Type 0
Fails NoMemory reading = Unit {0}
Fails NotPage reading = reading ≡ Err NotPage

-- memory ran out, or what was answered, seen by `view`, is what reading gives
abbrev pub Gives : {A B : Type 0} → (A → B) → Result A PageFault → Result B PageFault → Type 0
Gives view (Ok x) reading = reading ≡ Ok (view x)
Gives view (Err e) reading = Fails e reading

-- memory ran out, or the answer is this
abbrev pub Answers : {A : Type 0} → Result A PageFault → Result A PageFault → Type 0
Answers answer reading = Gives (λ x. x) answer reading

-- a number in front, and the bytes after it
abbrev pub number_at : Width → List ℕ → Result (ℕ × List ℕ) PageFault
number_at w bytes = if nat_lt (length bytes) (byte_len w) then Err NotPage else Ok (from_be_bytes w (take (byte_len w) bytes), drop (byte_len w) bytes)

-- the value of these bytes
abbrev pub value_of : List ℕ → Value
value_of text = record { len = length text; bytes = text ++ replicate (64 - length text) 0 }

-- a change in front, and the bytes after it
unfoldable pub change_at : List ℕ → Result (Change × List ℕ) PageFault
change_at bytes = do
  n ← number_at w16 bytes
  if n.0 == 65535 then Ok (Del, n.1) else if nat_lt 64 n.0 then Err NotPage else if nat_lt (length n.1) n.0 then Err NotPage else Ok (Put (value_of (take n.0 n.1)), drop n.0 n.1)

-- a version in front, and the bytes after it
unfoldable pub version_at : List ℕ → Result (Version × List ℕ) PageFault
version_at bytes = do
  lsn ← number_at w64 bytes
  txn ← number_at w64 lsn.1
  commit ← number_at w64 txn.1
  key ← number_at w32 commit.1
  change ← change_at key.1
  Ok (record { lsn = lsn.0; txn = txn.0; commit = commit.0; key = key.0; change = change.0 }, change.1)

-- so many versions, and the bytes after them
unfoldable pub versions_at : ℕ → List ℕ → Result (List Version × List ℕ) PageFault
versions_at zero bytes = Ok ([], bytes)
versions_at (suc n) bytes = do
  version ← version_at bytes
  others ← versions_at n version.1
  Ok (version.0 ∷ others.0, others.1)

-- the bytes after so many zeros
unfoldable pub zeros_at : ℕ → List ℕ → Result (List ℕ) PageFault
zeros_at n bytes = if nat_lt (length bytes) n then Err NotPage else if are_zero (take n bytes) then Ok (drop n bytes) else Err NotPage

-- the page that all of the bytes are
unfoldable pub page_at : List ℕ → Result PageValue PageFault
page_at bytes = do
  page ← number_at w16 bytes
  count ← number_at w16 page.1
  lsn ← number_at w64 count.1
  horizon ← number_at w64 lsn.1
  rest ← zeros_at 12 horizon.1
  versions ← versions_at count.0 rest
  if rise versions.0 && are_zero versions.1 then Ok (record { page = page.0; lsn = lsn.0; horizon = horizon.0; versions = versions.0 }) else Err NotPage
