use Rattle.std.proofs.Common.{◌≡◌, take}
use Rattle.ag_ends.specs.Starts.{term_by}
use Rattle.ag_front.proofs.history.term_of.Given as goal

abbrev pub invariant-loop-i : goal.invariant-loop-i
invariant-loop-i l = term_by l.last l.starts ≡ term_by l.last (take l.i l.starts)
