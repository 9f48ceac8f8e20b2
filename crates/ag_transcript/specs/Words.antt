-- The words of an answer line.
use Rattle.std.specs.Prelude.{ℕ, ◌+◌, ◌/◌, ◌%◌, Bool, true, false, List, [], ◌∷◌, ◌++◌, take, codes, if◌then◌else◌, ◌==◌}
use Rattle.std.specs.List.{flat_map, join_by}
use Rattle.std.specs.Fmt.{decimal, digit_glyph}
use Rattle.ag_model.specs.declared.answer.Cell.{Cell}
use Rattle.ag_model.specs.declared.answer.Cell.TheVariants.{Mark, Lost}
use Rattle.ag_model.specs.declared.answer.Role.{Role}
use Rattle.ag_model.specs.declared.answer.Role.TheVariants.{Primary, Secondary}
use Rattle.ag_model.specs.declared.answer.SuspectRow.{SuspectRow}
use Rattle.ag_model.specs.declared.config.Mode.{Mode}
use Rattle.ag_model.specs.declared.config.Mode.TheVariants.{Auto, Sync, Async}
use Rattle.ag_model.specs.declared.value.Change.{Change}
use Rattle.ag_model.specs.declared.value.Change.TheVariants.{Put, Del}
use Rattle.ag_model.specs.declared.value.Value.{Value}
use Rattle.ag_model.specs.declared.value.Version.{Version}

-- the letter of a replica, `A` for the first
abbrev pub letter : ℕ → ℕ
letter n = (65 + n) % 256

-- a replica
abbrev pub node_text : ℕ → List ℕ
node_text n = letter n ∷ []

-- two lower-case hex digits
abbrev pub hex_pair : ℕ → List ℕ
hex_pair b = digit_glyph false (b / 16) ∷ digit_glyph false (b % 16) ∷ []

-- the first `len` bytes in hex, or `-` for none
abbrev pub value_text : Value → List ℕ
value_text v = if v.len == 0 then codes "-" else flat_map hex_pair (take v.len v.bytes)

-- the items with `,` between them, or `-` for none
abbrev pub list_text : {A : Type 0} → (A → List ℕ) → List A → List ℕ
list_text text [] = codes "-"
list_text text (item ∷ items) = join_by text (codes ",") (item ∷ items)

-- what a replica is
abbrev pub role_text : Role → List ℕ
role_text Primary = codes "primary"
role_text Secondary = codes "secondary"

-- how a replica is waited for
abbrev pub mode_text : Mode → List ℕ
mode_text Auto = codes "auto"
mode_text Sync = codes "sync"
mode_text Async = codes "async"

-- the mark of a sector, or `?` for a lost one
abbrev pub cell_text : Cell → List ℕ
cell_text (Mark mark) = decimal mark
cell_text Lost = codes "?"

-- a value, or `x` for a deletion
abbrev pub change_text : Change → List ℕ
change_text (Put value) = value_text value
change_text Del = codes "x"

-- lsn:txn:commit:key:change
abbrev pub version_text : Version → List ℕ
version_text v = decimal v.lsn ++ codes ":" ++ decimal v.txn ++ codes ":" ++ decimal v.commit ++ codes ":" ++ decimal v.key ++ codes ":" ++ change_text v.change

-- `1` for yes
abbrev pub flag_text : Bool → List ℕ
flag_text true = codes "1"
flag_text false = codes "0"

-- page:type:count:repaired
abbrev pub suspect_text : SuspectRow → List ℕ
suspect_text row = decimal row.page ++ codes ":" ++ decimal row.kind ++ codes ":" ++ decimal row.count ++ codes ":" ++ flag_text row.repaired
