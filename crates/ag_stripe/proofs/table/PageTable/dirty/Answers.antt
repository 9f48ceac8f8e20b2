use Rattle.std.proofs.Common.{ap, ◌∙◌, List, length}
use Rattle.ag_model.specs.PageSets.{pages_where}
use Rattle.ag_stripe.specs.declared.slot.Slot.{Slot}
use Rattle.ag_stripe.specs.Tables.{dirty_pages, is_dirty_at}
use Rattle.ag_stripe.proofs.Slots.{dirty-all}
use Rattle.ag_stripe.proofs.table.PageTable.dirty.Goals as goal

pub returns : goal.returns
returns c =
    let t = c.self.inside in
    c.dirty_of.ensures
    ∙ ap (λ (slots : List Slot). pages_where (is_dirty_at t.number slots (length slots))) c.deref.ensures.value
    ∙ dirty-all (record { number = t.number; pages = t.pages; slots = t.slots.items }) c.self.invariant
    ∙ ap dirty_pages c.self.view_is
