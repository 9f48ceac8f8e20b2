use Rattle.std.proofs.Common.{ap, ◌∙◌}
use Rattle.ag_stripe.specs.declared.slot.Slot.{Slot}
use Rattle.ag_stripe.proofs.Slots.{slot-at}
use Rattle.ag_stripe.proofs.table.PageTable.is_dirty.Goals as goal

pub returns : goal.returns
returns c =
    let t = c.self.inside in
    ap (λ (s : Slot). s.dirty) (c.index.ensures ∙ slot-at (record { number = t.number; pages = t.pages; slots = t.slots.items }) c.args.self.now c.args.page c.place_of.result c.index.result.now c.self.view_is c.self.invariant c.requires c.place_of.ensures)
