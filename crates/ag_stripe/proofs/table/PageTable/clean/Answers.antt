use Rattle.std.proofs.Common.{false}
use Rattle.ag_stripe.specs.declared.slot.Slot.{Slot}
use Rattle.ag_stripe.proofs.Slots.{slot-edited}
use Rattle.ag_stripe.proofs.table.PageTable.clean.Goals as goal

pub returns-clause-cleaned : goal.returns-clause-cleaned
returns-clause-cleaned c =
    let t = c.self.inside in
    slot-edited (record { number = t.number; pages = t.pages; slots = t.slots.items }) c.args.self.now c.args.page c.place_of.result (λ (s : Slot). record { value = s.value; dirty = false }) c.index_mut.result.now c.self.view_is c.self.invariant c.requires c.place_of.ensures c.index_mut.ensures.value
