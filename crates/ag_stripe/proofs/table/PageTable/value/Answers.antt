use Rattle.std.proofs.Common.{sym, ap, ◌∙◌}
use Rattle.ag_stripe.specs.declared.slot.Slot.{Slot}
use Rattle.ag_stripe.proofs.Slots.{slot-at}
use Rattle.ag_stripe.proofs.table.PageTable.value.Goals as goal

pub unreachable-requires : goal.unreachable-requires
unreachable-requires c =
    let t = c.self.inside in
    let at = ap (λ (s : Slot). s.value) (c.index.ensures ∙ slot-at (record { number = t.number; pages = t.pages; slots = t.slots.items }) c.args.self.now c.args.page c.place_of.result c.index.result.now c.self.view_is c.self.invariant c.requires.own c.place_of.ensures) in
    let v = c.requires.kept.1 in
    let none = c.in-None.is in
    cc

pub returns : goal.returns
returns c =
    let t = c.self.inside in
    let at = ap (λ (s : Slot). s.value) (c.index.ensures ∙ slot-at (record { number = t.number; pages = t.pages; slots = t.slots.items }) c.args.self.now c.args.page c.place_of.result c.index.result.now c.self.view_is c.self.invariant c.requires.own c.place_of.ensures) in
    let some = c.in-Some.is in
    sym at ∙ some
