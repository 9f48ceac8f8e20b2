use Rattle.std.proofs.Common.{◌≡◌}
use Rattle.ag_model.specs.PageSets.{pages_where}
use Rattle.ag_stripe.specs.Tables.{is_dirty_at}
use Rattle.ag_stripe.proofs.table.dirty_of.Given as goal

abbrev pub invariant-loop-i : goal.invariant-loop-i
invariant-loop-i l = l.set ≡ pages_where (is_dirty_at l.number l.slots l.i)
