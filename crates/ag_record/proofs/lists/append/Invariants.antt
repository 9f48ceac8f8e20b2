use Rattle.std.proofs.Common.{◌≡◌, ◌++◌, take}
use Rattle.ag_record.specs.Spelling.{records_spelling}
use Rattle.ag_record.proofs.lists.append.Given as goal

abbrev pub invariant-loop-r : goal.invariant-loop-r
invariant-loop-r l = l.out.items ≡ l.fn.out.items ++ records_spelling (take l.r-index l.rs)
