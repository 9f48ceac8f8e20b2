use Rattle.std.proofs.Common.{◌≡◌, ◌+◌, ◌%◌, arith, ◌∙◌, refl}
use Rattle.ag_front.proofs.Taking.{takes_stripe}
use Rattle.ag_front.proofs.Grabbing.{took_second, took_turn, missed_turn, busy_twice}
use Rattle.ag_front.proofs.shared.Front.grab_stripe.Goals as goal

pub compare_exchange-found-requires : goal.compare_exchange-found-requires
compare_exchange-found-requires g c = let wide = c.args.self.now.sized.0 in let o = c.requires.own in let f = c.requires.free in let small = o.1 in let low = c.if-turn-ge-LAST_TURN.false in
    (o.0, omega arith, takes_stripe _ _ _ _ c.args.seat.now.me c.args.stripe _ _ o.1 f.2 f.1 (omega arith) refl (omega arith))

pub compare_exchange-again-requires : goal.compare_exchange-again-requires
compare_exchange-again-requires g c = let wide = c.args.self.now.sized.0 in let o = c.requires.own in let f = c.requires.free in let small = o.1 in
    let e = c.compare_exchange-found.ensures in let missed = (e.2 c.args.stripe refl).1 c.if-found-start.false in
    let parts : c.compare_exchange-found.new.seat.me.0.parts ≡ c.args.seat.now.me.0.parts = λ i. ((missed.0 i).0).parts in
    let hand : c.compare_exchange-found.new.seat.me.0.hand ≡ c.args.seat.now.me.0.hand = λ i. ((missed.0 i).0).hand in
    let even = c.if-found-eq1.false in let low = c.if-found-ge-LAST_TURN.false in let p = f.2 in
    (e.0 ∙ o.0, omega arith, takes_stripe _ _ _ _ c.compare_exchange-found.new.seat.me c.args.stripe _ _ o.1 (omega arith) (hand ∙ f.1) (omega arith) refl (omega arith))

pub returns-then-again-found-clause-taken : goal.returns-then-again-found-clause-taken
returns-then-again-found-clause-taken g c = let missed = (c.compare_exchange-found.ensures.2 c.args.stripe refl).1 c.if-found-start.false in
    let has = (c.compare_exchange-again.ensures.2 c.args.stripe refl).0 c.if-again-found.true in let even = c.if-found-eq1.false in
    λ _. took_second _ c.args.stripe c.compare_exchange-found.result c.args.seat.now.me c.compare_exchange-found.new.seat.me c.compare_exchange-again.new.seat.me (omega arith) missed.0 has

pub returns-then-again-found-clause-turn : goal.returns-then-again-found-clause-turn
returns-then-again-found-clause-turn g c = let missed = (c.compare_exchange-found.ensures.2 c.args.stripe refl).1 c.if-found-start.false in
    let has = (c.compare_exchange-again.ensures.2 c.args.stripe refl).0 c.if-again-found.true in let even = c.if-found-eq1.false in let small = c.requires.own.1 in
    took_turn _ c.args.stripe (c.compare_exchange-found.result + 1) c.args.seat.now.me c.compare_exchange-again.new.seat.me (omega arith)
    (took_second _ c.args.stripe c.compare_exchange-found.result c.args.seat.now.me c.compare_exchange-found.new.seat.me c.compare_exchange-again.new.seat.me (omega arith) missed.0 has)

pub returns-clause-turn : goal.returns-clause-turn
returns-clause-turn g c = let missed = (c.compare_exchange-again.ensures.2 c.args.stripe refl).1 c.if-again-found.false in let small = c.requires.own.1 in
    missed_turn c.args.stripe c.compare_exchange-again.result c.compare_exchange-found.new.seat.me c.compare_exchange-again.new.seat.me (omega arith) missed

pub returns-clause-busy : goal.returns-clause-busy
returns-clause-busy g c = let missed = (c.compare_exchange-found.ensures.2 c.args.stripe refl).1 c.if-found-start.false in let up = missed.1 in
    let again = (c.compare_exchange-again.ensures.2 c.args.stripe refl).1 c.if-again-found.false in let small = c.requires.own.1 in let known = c.requires.own.2 in let even = c.if-found-eq1.false in
    λ _. busy_twice c.args.stripe (c.args.turn + c.args.turn % 2) c.compare_exchange-found.result c.compare_exchange-again.result c.args.seat.now.me c.compare_exchange-found.new.seat.me c.compare_exchange-again.new.seat.me
    (omega arith) (omega arith) (omega arith) missed c.if-found-start.false (omega arith) (omega arith) again c.if-again-found.false
