use Rattle.std.proofs.Common.{◌≡◌, ◌-◌, ◌*◌, ◌++◌, take, replicate}
use Rattle.std.specs.List.{flat_map}
use Rattle.ag_suspect.specs.Rows.{row_spelling}
use Rattle.ag_suspect.proofs.row.encode.Given as goal

-- the rows before this one, and zeros
abbrev pub invariant-loop-i : goal.invariant-loop-i
invariant-loop-i l = l.bytes ≡ flat_map row_spelling (take l.i l.rows) ++ replicate (512 - 32 * l.i) 0
