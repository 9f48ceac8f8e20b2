-- The one spelling of a page value.
use Rattle.std.specs.Prelude.{◌≡◌, ℕ, ◌-◌, ◌^◌, ◌<◌, List, [], ◌∷◌, ◌++◌, length, take, drop, replicate, Bool, true, ◌&&◌, ◌==◌, nat_lt, nat_le}
use Rattle.std.specs.List.{flat_map, list_all, AllByRecursion}
use Rattle.std.specs.Int.{w16, w32, w64, to_be_bytes}
use Rattle.ag_model.specs.declared.value.Change.{Change}
use Rattle.ag_model.specs.declared.value.Change.TheVariants.{Put, Del}
use Rattle.ag_model.specs.declared.value.Version.{Version}
use Rattle.ag_model.specs.declared.value.PageValue.{PageValue}
use Rattle.ag_model.specs.Sizes.{versions_size}

-- a value's length and its bytes, or the length 65535 of a deletion
abbrev pub change_spelling : Change → List ℕ
change_spelling (Put value) = to_be_bytes w16 value.len ++ take value.len value.bytes
change_spelling Del = to_be_bytes w16 65535

-- the bytes of a version: LSN, transaction, Commit, key, and its change
unfoldable pub version_spelling : Version → List ℕ
version_spelling w = to_be_bytes w64 w.lsn ++ (to_be_bytes w64 w.txn ++ (to_be_bytes w64 w.commit ++ (to_be_bytes w32 w.key ++ change_spelling w.change)))

-- what stands before the versions: number, how many versions, LSN, horizon, 12 zeros
unfoldable pub header : PageValue → List ℕ
header v = to_be_bytes w16 v.page ++ (to_be_bytes w16 (length v.versions) ++ (to_be_bytes w64 v.lsn ++ (to_be_bytes w64 v.horizon ++ replicate 12 0)))

-- the 8,176 bytes of a page: the header, the versions, and zeros
unfoldable pub page_bytes : PageValue → List ℕ
page_bytes v = header v ++ (flat_map version_spelling v.versions ++ replicate (8144 - versions_size v.versions) 0)

-- each of these is zero
abbrev pub are_zero : List ℕ → Bool
are_zero bytes = list_all (λ b. b == 0) bytes

-- a value has at most 64 bytes, and zeros after them
abbrev pub has_spelling : Change → Bool
has_spelling (Put value) = nat_le value.len 64 && are_zero (drop value.len value.bytes)
has_spelling Del = true

-- the LSNs rise from above this one
abbrev pub rise_from : ℕ → List Version → Bool
rise_from low [] = true
rise_from low (w ∷ ws) = nat_lt low w.lsn && rise_from w.lsn ws

-- the LSNs rise
abbrev pub rise : List Version → Bool
rise [] = true
rise (w ∷ ws) = rise_from w.lsn ws

-- whether a page value has an image
abbrev pub has_image : PageValue → Bool
has_image v = list_all (λ w. has_spelling w.change) v.versions && rise v.versions && nat_le (versions_size v.versions) 8144

-- a change as its type has it: 64 bytes
abbrev pub IsWhole : Change → Type 0
IsWhole (Put value) = length value.bytes ≡ 64
IsWhole Del = Unit {0}

-- a version whose numbers fit their types
pub record IsVersion (w : Version) : Type 0 where
  pub lsn : w.lsn < 2 ^ 64
  pub txn : w.txn < 2 ^ 64
  pub commit : w.commit < 2 ^ 64
  pub key : w.key < 2 ^ 32
  pub change : IsWhole w.change

-- a page value whose numbers fit their types
pub record IsInRange (v : PageValue) : Type 0 where
  pub page : v.page < 2 ^ 16
  pub lsn : v.lsn < 2 ^ 64
  pub horizon : v.horizon < 2 ^ 64
  pub versions : AllByRecursion IsVersion v.versions
