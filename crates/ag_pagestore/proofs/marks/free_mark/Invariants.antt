use Rattle.std.proofs.Common.{◌≡◌, ◌-◌}
use Rattle.ag_pagestore.proofs.Unused.{unused}
use Rattle.ag_pagestore.proofs.marks.free_mark.Given as goal

-- all marks before this one are used
abbrev pub invariant-loop-mark : goal.invariant-loop-mark
invariant-loop-mark l = unused l.cells 1 17 ≡ unused l.cells l.mark (18 - l.mark)
