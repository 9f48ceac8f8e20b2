use Rattle.std.proofs.Common.{◌≡◌, replicate}
use Rattle.ag_stripe.specs.Tables.{empty_slot}
use Rattle.ag_stripe.proofs.table.empty_slots.Given as goal

abbrev pub invariant-loop : goal.invariant-loop
invariant-loop l = l.slots.items ≡ replicate l.counter empty_slot
