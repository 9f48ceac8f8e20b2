use Rattle.std.proofs.Common.{◌&&◌, sym, ap, ◌∙◌, subst, set}
use Rattle.std.proofs.lemmas.Bool.{and_from}
use Rattle.ag_model.specs.Rows.{touches}
use Rattle.ag_stripe.specs.declared.slot.Slot.{Slot}
use Rattle.ag_stripe.specs.Redo.{redone_slot, CanTake}
use Rattle.ag_stripe.specs.Tables.{is_own, slot_of}
use Rattle.ag_stripe.proofs.Edits.{edits-slot}
use Rattle.ag_stripe.proofs.Slots.{slot-at, slot-edited-own}
use Rattle.ag_stripe.proofs.table.PageTable.redo_on.Goals as goal
use Rattle.ag_stripe.proofs.table.PageTable.redo_on.Goals.{in-Ok, in-Err-PageFull, in-Err-NoMemory}

pub returns-clause-redone : goal.returns-clause-redone
returns-clause-redone c =
    let t = c.self.inside in
    let own = sym c.owns.ensures ∙ c.if-not-owns.false in
    elim c.match-redo.branch [
      | in-Ok w ↦
          rw w.result-is (λ q.
          ap (λ (s : Slot). slot_of (record { number = t.number; pages = t.pages; slots = set t.slots.items c.place_of.result s }) q) w.in-Ok.ensures.ok
          ∙ slot-edited-own (record { number = t.number; pages = t.pages; slots = t.slots.items }) c.args.self.now c.args.page c.place_of.result (redone_slot c.args.lsn c.args.entry.now) c.index_mut.result.now c.self.view_is c.self.invariant own c.place_of.ensures c.index_mut.ensures.value q)
      | in-Err-PageFull w ↦ rw w.result-is tt
      | in-Err-NoMemory w ↦ rw w.result-is tt
    ]

pub returns-clause-refused : goal.returns-clause-refused
returns-clause-refused c =
    let t = c.self.inside in
    let own = sym c.owns.ensures ∙ c.if-not-owns.false in
    elim c.match-redo.branch [
      | in-Ok w ↦ rw w.result-is tt
      | in-Err-PageFull w ↦ rw w.result-is (
        own,
        c.requires,
        λ can.
            let at = c.index_mut.ensures.value ∙ slot-at (record { number = t.number; pages = t.pages; slots = t.slots.items }) c.args.self.now c.args.page c.place_of.result c.index_mut.result.now c.self.view_is c.self.invariant own c.place_of.ensures in
            let e = w.in-Err-PageFull.ensures.room (subst (CanTake c.args.lsn c.args.entry.now) (sym at) can) in
            let f = w.in-Err-PageFull.field-0-is in
            cc,
      )
      | in-Err-NoMemory w ↦ rw w.result-is tt
    ]

pub returns-clause-edits : goal.returns-clause-edits
returns-clause-edits c =
    let t = c.self.inside in
    let now = c.args.self.now in
    let own = sym c.owns.ensures ∙ c.if-not-owns.false in
    edits-slot (record { number = t.number; pages = t.pages; slots = t.slots.items }) now c.args.page c.place_of.result c.redo.new.self c.index_mut.result.now (λ q. is_own now q && touches now.pages q c.args.entry.now) c.self.view_is c.self.invariant own c.place_of.ensures c.index_mut.ensures.value c.redo.ensures.kept
    (and_from (is_own now c.args.page) (touches now.pages c.args.page c.args.entry.now) own c.requires)
