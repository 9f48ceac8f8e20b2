use Rattle.std.proofs.Common.{◌≡◌, ◌∷◌, set, arith, sym, ◌∙◌}
use Rattle.atomic_table.specs.Table.{rest}
use Rattle.ag_front.specs.declared.rule.Slot.{Slot}
use Rattle.ag_front.specs.declared.rule.Slot.TheVariants.{History}
use Rattle.ag_front.proofs.Logging.{log_in_hand, log_visited_same}
use Rattle.ag_front.proofs.shared.Front.fetch.Goals as goal

pub exchange-slot-requires : goal.exchange-slot-requires
exchange-slot-requires g c = let h = c.take_log.ensures.taken in let S : Type 0 = Slot g.row.T.Denot in
    let is : c.take_log.new.seat.me.1 ≡ (16, History h.log) ∷ c.args.pass.now.seat.me.1 = λ i. (h.is i).1 in
    (c.take_log.ensures.own.0 ∙ c.requires.own, (History h.log, is ∙ (λ i. (16, History h.log) ∷ rest (sym is i))))

pub invariant_of-pass : goal.invariant_of-pass
invariant_of-pass g c = let h = c.take_log.ensures.taken in let p = c.args.pass.now in
    let is = log_in_hand c.take_log.result p.seat.me c.take_log.new.seat.me c.exchange-slot.result c.in-History.log h c.exchange-slot.ensures.2 c.in-History.is in
    let v = log_visited_same c.take_log.result c.give_log.result p.seat.me c.take_log.new.seat.me c.exchange-slot.new.seat.me c.give_log.new.seat.me c.in-History.log h is c.exchange-slot.ensures.3 c.give_log.ensures.home c.give_log.ensures.sound in
    let some = p.some_part in let q = v.0.parts in record {
      done_is = p.done_is ∙ sym v.0.done;
      turn_is = (λ i. set (p.turn_is i) 16 c.give_log.result) ∙ sym v.2;
      pages_is = p.pages_is ∙ sym v.0.pages;
      some_pages = p.some_pages;
      free = v.0.free;
      some_part = omega arith;
    }
