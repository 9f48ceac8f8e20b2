use Rattle.ag_suspect.proofs.Changed.{none_repaired}
use Rattle.ag_suspect.specs.Places.{row_place}
use Rattle.ag_suspect.proofs.Standing.{noted-stands, repaired-stands, noted-place, repaired-place, sector-within}
use Rattle.ag_suspect.proofs.laws.rows_stay.Goals as goal

pub returns-clause-noted : goal.returns-clause-noted
returns-clause-noted c = noted-stands

pub returns-clause-repaired : goal.returns-clause-repaired
returns-clause-repaired c = repaired-stands

pub returns-clause-none : goal.returns-clause-none
returns-clause-none c = none_repaired

pub returns-clause-noted_at : goal.returns-clause-noted_at
returns-clause-noted_at c = λ rows page kind few can. sector-within (row_place page rows) (noted-place rows page few can)

pub returns-clause-repaired_at : goal.returns-clause-repaired_at
returns-clause-repaired_at c = λ rows page few had. sector-within (row_place page rows) (repaired-place rows page few had)
