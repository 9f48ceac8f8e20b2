use Rattle.std.proofs.Common.{ap, ◌∙◌, List}
use Rattle.ag_stripe.specs.declared.slot.Slot.{Slot}
use Rattle.ag_stripe.specs.Tables.{slot_of}
use Rattle.ag_stripe.proofs.Slots.{slot-none}
use Rattle.ag_stripe.proofs.table.PageTable.new.Goals as goal

pub returns-clause-empty : goal.returns-clause-empty
returns-clause-empty c = λ page. ap (λ (slots : List Slot). slot_of (record { number = c.args.number; pages = c.args.pages; slots = slots }) page) c.in_ok-slots.ensures ∙ slot-none c.args.number c.args.pages _ page
