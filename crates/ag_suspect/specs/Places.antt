-- Where rows stand, and the one sector that a change of the list writes.
use Rattle.std.specs.Prelude.{ℕ, ◌+◌, ◌/◌, List, [], ◌∷◌, map, ◌==◌}
use Rattle.std.specs.List.{position_or_len}
use Rattle.ag_model.specs.declared.answer.SuspectRow.{SuspectRow}
use Rattle.ag_outside.specs.declared.disk.SectorWrite.{SectorWrite}
use Rattle.ag_outside.specs.Calls.{Piece}
use Rattle.ag_rules.specs.Plan.{noted, repaired_row}
use Rattle.ag_suspect.specs.Rows.{rows_sector, part_of}

-- the place of a page's row, which is behind the others where it has none
abbrev pub row_place : ℕ → List SuspectRow → ℕ
row_place page rows = position_or_len (λ row. row.page == page) rows

-- the rows once a page was repaired
abbrev pub repaired : ℕ → List SuspectRow → List SuspectRow
repaired page rows = map (repaired_row page) rows

-- the sector that has the row of a place, with these rows
abbrev pub sector_with : ℕ → List SuspectRow → SectorWrite
sector_with place rows = record { at = 1 + place / 16; sector = rows_sector (part_of (place / 16) rows) }

-- what noting a page writes
abbrev pub noted_sector : ℕ → ℕ → List SuspectRow → SectorWrite
noted_sector page kind rows = sector_with (row_place page rows) (noted page kind rows)

-- what marking a page's row as repaired writes
abbrev pub repaired_sector : ℕ → List SuspectRow → SectorWrite
repaired_sector page rows = sector_with (row_place page rows) (repaired page rows)

-- a sector as a piece that is written in one call
abbrev pub piece_of : SectorWrite → Piece
piece_of w = record { first = w.at; sectors = w.sector ∷ [] }
