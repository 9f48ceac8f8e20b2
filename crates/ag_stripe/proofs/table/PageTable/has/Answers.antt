use Rattle.std.proofs.Common.{◌≡◌, sym, ap, ◌∙◌, Bool, true, false}
use Rattle.std.specs.Prelude.{Option, Some, None}
use Rattle.std.specs.Option.{is_some}
use Rattle.ag_model.specs.declared.value.PageValue.{PageValue}
use Rattle.ag_stripe.specs.declared.slot.Slot.{Slot}
use Rattle.ag_stripe.proofs.Slots.{slot-at}
use Rattle.ag_stripe.proofs.table.PageTable.has.Goals as goal

there : (o p : Option PageValue) (b : Bool) → b ≡ is_some o → o ≡ p → b ≡ true → (v : PageValue) × (p ≡ Some v)
there None p b e f t = cc
there (Some v) p b e f t = (v, sym f)

not-there : (o p : Option PageValue) (b : Bool) → b ≡ is_some o → o ≡ p → b ≡ false → p ≡ None
not-there None p b e f t = sym f
not-there (Some v) p b e f t = cc

pub returns-clause-yes : goal.returns-clause-yes
returns-clause-yes c =
    let t = c.self.inside in
    let at = c.index.ensures ∙ slot-at (record { number = t.number; pages = t.pages; slots = t.slots.items }) c.args.self.now c.args.page c.place_of.result c.index.result.now c.self.view_is c.self.invariant c.requires c.place_of.ensures in
    there c.index.result.now.value _ c.is_some.result c.is_some.ensures (ap (λ (s : Slot). s.value) at)

pub returns-clause-no : goal.returns-clause-no
returns-clause-no c =
    let t = c.self.inside in
    let at = c.index.ensures ∙ slot-at (record { number = t.number; pages = t.pages; slots = t.slots.items }) c.args.self.now c.args.page c.place_of.result c.index.result.now c.self.view_is c.self.invariant c.requires c.place_of.ensures in
    not-there c.index.result.now.value _ c.is_some.result c.is_some.ensures (ap (λ (s : Slot). s.value) at)
