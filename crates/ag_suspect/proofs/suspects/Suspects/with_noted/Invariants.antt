use Rattle.std.proofs.Common.{◌≡◌, map, take}
use Rattle.ag_rules.specs.Plan.{noted_row}
use Rattle.ag_suspect.proofs.suspects.Suspects.with_noted.Given as goal

-- the rows before this one, each as it is after the note
abbrev pub invariant-loop-row : goal.invariant-loop-row
invariant-loop-row l = l.rows.items ≡ map (noted_row l.page l.kind) (take l.row-index l.self)
