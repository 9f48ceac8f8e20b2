use Rattle.std.proofs.Common.{sym, ◌∙◌, length, ◌<◌, ◌+◌, ◌*◌, arith}
use Rattle.ag_stripe.proofs.Slots.{dirty-none, dirty-next, clean-next}
use Rattle.ag_stripe.proofs.table.dirty_of.Goals as goal
use Rattle.ag_stripe.proofs.table.dirty_of.Goals.{then-slot, else-slot}

pub loop-i-init : goal.loop-i-init
loop-i-init c = c.empty-set.ensures ∙ sym (dirty-none c.args.number c.args.slots.now)

pub loop-i-preserved : goal.loop-i-preserved
loop-i-preserved c =
    let lt : c.loop-i.i < length c.args.slots.now = omega arith in
    elim c.if-slot.branch [
      | then-slot w ↦
          w.set-is
          ∙ dirty-next c.args.number c.loop-i.i (16 + w.from.result + 16 * c.loop-i.i) c.args.slots.now c.index-slots-i.result c.loop-i.set w.insert.new.self c.requires.small lt (omega arith) c.index-slots-i.is w.if-slot.true c.loop-i.invariant w.insert.ensures
      | else-slot w ↦ w.set-is ∙ c.loop-i.invariant ∙ clean-next c.args.number c.loop-i.i c.args.slots.now c.index-slots-i.result lt c.index-slots-i.is w.if-slot.false
    ]
