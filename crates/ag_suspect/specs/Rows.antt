-- The suspect rows of a disk.
use Rattle.std.specs.Prelude.{◌≡◌, ℕ, ◌+◌, ◌-◌, ◌*◌, ◌/◌, ◌%◌, ◌^◌, ◌<◌, ◌≤◌, List, ◌∷◌, ◌++◌, length, map, take, drop, replicate, slice_index, Bool, not, if◌then◌else◌, ◌==◌, nat_eq}
use Rattle.std.specs.Int.{Width, w16, w32, byte_len, to_be_bytes, from_be_bytes}
use Rattle.std.specs.List.{flat_map, range_with_len, take_while, AllByRecursion, IsDistinct}
use Rattle.ag_model.specs.declared.answer.SuspectRow.{SuspectRow}
use Rattle.ag_outside.specs.Disks.{Image, or_zeros}

-- the 32 bytes of a row: page, kind, whether it was repaired, count, zeros
unfoldable pub row_spelling : SuspectRow → List ℕ
row_spelling row = to_be_bytes w16 row.page ++ (row.kind ∷ (if row.repaired then 1 else 0) ∷ (to_be_bytes w32 row.count ++ replicate 24 0))

-- a row that has such bytes, and a page
pub record IsRow (row : SuspectRow) : Type 0 where
  pub some : 1 ≤ row.page
  pub page : row.page < 2 ^ 16
  pub kind : row.kind < 2 ^ 8
  pub count : row.count < 2 ^ 32

-- the number in front
abbrev pub number : Width → List ℕ → ℕ
number w bytes = from_be_bytes w (take (byte_len w) bytes)

-- the row that stands in 32 bytes
unfoldable pub row_in : List ℕ → SuspectRow
row_in bytes = record { page = number w16 bytes; kind = slice_index bytes 2; repaired = slice_index bytes 3 == 1; count = number w32 (drop 4 bytes) }

-- the sector of at most 16 rows
unfoldable pub rows_sector : List SuspectRow → List ℕ
rows_sector rows = flat_map row_spelling rows ++ replicate (512 - 32 * length rows) 0

-- what stands at a place of an image: 16 to a sector, from sector 1 on
unfoldable pub slot_on : Image → ℕ → SuspectRow
slot_on image place = row_in (take 32 (drop (32 * (place % 16)) (or_zeros (image (1 + place / 16)))))

-- whether a row stands there: one with page 0 is free
abbrev pub is_taken : SuspectRow → Bool
is_taken row = not (row.page == 0)

-- the suspect rows of an image: of its first 1,000 places, those before the first free one
unfoldable pub suspects_on : Image → List SuspectRow
suspects_on image = take_while is_taken (map (slot_on image) (range_with_len 0 1000))

-- at most 1,000 rows
pub record AreRows (rows : List SuspectRow) : Type 0 where
  pub fit : AllByRecursion IsRow rows
  pub few : length rows ≤ 1000

-- no page has two rows
abbrev pub AreOnce : List SuspectRow → Type 0
AreOnce rows = IsDistinct nat_eq (map (λ row. row.page) rows)

-- the rows of one sector, where the first has the number 0
abbrev pub part_of : ℕ → List SuspectRow → List SuspectRow
part_of j rows = take 16 (drop (16 * j) rows)

-- an image has these rows without holes, and no other
pub record HasRows (image : Image) (rows : List SuspectRow) : Type 0 where
  pub fit : AllByRecursion IsRow rows
  pub few : length rows ≤ 1000
  pub once : AreOnce rows
  pub stand : (j : ℕ) → j < 63 → or_zeros (image (1 + j)) ≡ rows_sector (part_of j rows)
