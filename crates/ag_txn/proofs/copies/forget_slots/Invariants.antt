use Rattle.std.proofs.Common.{◌≡◌, ◌++◌, map, take, drop, None}
use Rattle.ag_txn.proofs.copies.forget_slots.Given as goal

abbrev pub invariant-loop-slot : goal.invariant-loop-slot
invariant-loop-slot l = l.slot-items ≡ map (λ c. None) (take l.slot-index l.fn.slots.items) ++ drop l.slot-index l.fn.slots.items
