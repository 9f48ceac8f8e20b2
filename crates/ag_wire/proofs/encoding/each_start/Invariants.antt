use Rattle.std.proofs.Common.{◌≡◌, ◌++◌, take}
use Rattle.std.specs.List.{flat_map}
use Rattle.ag_wire.specs.Spelling.{start_spelling}
use Rattle.ag_wire.proofs.encoding.each_start.Given as goal

abbrev pub invariant-loop-start : goal.invariant-loop-start
invariant-loop-start l = l.out.items ≡ l.fn.out.items ++ flat_map start_spelling (take l.start-index l.starts)
