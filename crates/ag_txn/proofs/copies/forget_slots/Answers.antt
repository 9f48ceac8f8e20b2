use Rattle.std.proofs.Common.{◌<◌, None, length, arith}
use Rattle.std.specs.Prelude.{Option}
use Rattle.ag_model.specs.declared.value.PageValue.{PageValue}
use Rattle.ag_txn.proofs.Lists.{each-more}
use Rattle.ag_txn.proofs.copies.forget_slots.Goals as goal

pub loop-slot-preserved : goal.loop-slot-preserved
loop-slot-preserved c =
    let i = c.loop-slot.slot-index in
    let lt : i < length c.args.slots.now.items = omega (arith, c.loop-slot-test.true, c.deref_mut-slot-items.ensures.len) in
    each-more (λ (o : Option PageValue). None) c.args.slots.now.items c.loop-slot.slot-items i None lt c.loop-slot.invariant
