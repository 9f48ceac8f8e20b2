use Rattle.std.proofs.Common.{◌≡◌, map, take}
use Rattle.ag_rules.specs.Plan.{repaired_row}
use Rattle.ag_suspect.proofs.suspects.Suspects.with_repaired.Given as goal

-- the rows before this one, each as it is after the mark
abbrev pub invariant-loop-row : goal.invariant-loop-row
invariant-loop-row l = l.rows.items ≡ map (repaired_row l.page) (take l.row-index l.self)
