use Rattle.std.proofs.Common.{refl}
use Rattle.ag_suspect.specs.Rows.{row_spelling}
use Rattle.ag_suspect.proofs.laws.example_row.Goals as goal

pub returns : goal.returns
unfolding row_spelling
returns c = refl
