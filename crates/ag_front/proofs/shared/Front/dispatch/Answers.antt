use Rattle.std.proofs.Common.{◌≡◌, ◌∷◌, sym, ◌∙◌}
use Rattle.atomic_table.specs.Table.{rest}
use Rattle.ag_front.specs.declared.rule.Slot.{Slot}
use Rattle.ag_front.specs.declared.rule.Slot.TheVariants.{History}
use Rattle.ag_front.proofs.Logging.{log_in_hand, log_further, log_visited}
use Rattle.ag_front.proofs.shared.Front.dispatch.Goals as goal

pub exchange-slot-requires : goal.exchange-slot-requires
exchange-slot-requires g c = let h = c.take_log.ensures.taken in let S : Type 0 = Slot g.row.T.Denot in
    let is : c.take_log.new.seat.me.1 ≡ (16, History h.log) ∷ c.args.pass.now.seat.me.1 = λ i. (h.is i).1 in
    (c.take_log.ensures.own.0 ∙ c.requires.own, (History h.log, is ∙ (λ i. (16, History h.log) ∷ rest (sym is i))))

pub returns-clause-visited : goal.returns-clause-visited
returns-clause-visited g c = let h = c.take_log.ensures.taken in let m = c.args.pass.now.seat.me in let e = c.add-added.ensures in
    let is = log_in_hand c.take_log.result m c.take_log.new.seat.me c.exchange-slot.result c.in-History.log h c.exchange-slot.ensures.2 c.in-History.is in
    let further = log_further c.take_log.result m c.take_log.new.seat.me c.in-History.log c.add-added.new.self c.args.block.records c.args.block.first c.add-added.result h is c.requires.author c.requires.block e.next e.ok e.err in
    (log_visited c.take_log.result c.give_log.result m c.take_log.new.seat.me c.exchange-slot.new.seat.me c.give_log.new.seat.me c.add-added.new.self h c.exchange-slot.ensures.3 further c.give_log.ensures.home c.give_log.ensures.sound).0
