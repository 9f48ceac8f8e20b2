use Rattle.std.proofs.Common.{◌≡◌, ◌+◌, ◌%◌, arith, ◌∙◌, refl}
use Rattle.ag_front.proofs.Giving.{takes_log}
use Rattle.ag_front.proofs.Logging.{trying_none, trying_next, took_log}
use Rattle.ag_front.proofs.shared.Front.take_log.Goals as goal

pub loop-init : goal.loop-init
loop-init g c = record { table = refl; same = refl; trying = trying_none c.args.turn c.args.seat.now.me c.requires.own.1 }

pub compare_exchange-found-requires : goal.compare_exchange-found-requires
compare_exchange-found-requires g c = let wide = c.args.self.now.sized.0 in let inv = c.loop.invariant in let f = c.requires.free in let p = f.2 in
    let parts : c.loop.seat.me.0.parts ≡ c.args.seat.now.me.0.parts = λ i. ((inv.trying.is i).0).parts in
    let hand : c.loop.seat.me.0.hand ≡ c.args.seat.now.me.0.hand = λ i. ((inv.trying.is i).0).hand in
    let low = c.if-turn-ge-LAST_TURN.false in
    (inv.table ∙ c.requires.own.0, omega arith, takes_log _ _ _ _ c.loop.seat.me _ _ (omega arith) (hand ∙ f.1) (omega arith) refl (omega arith))

pub returns-then-found-start-clause-taken : goal.returns-then-found-start-clause-taken
returns-then-found-start-clause-taken g c = took_log c.loop.turn (c.loop.turn + c.loop.turn % 2 + 1) c.args.seat.now.me c.loop.seat.me c.compare_exchange-found.new.seat.me c.loop.invariant.trying (c.compare_exchange-found.ensures.2.0 c.if-found-start.true)

pub loop-preserved : goal.loop-preserved
loop-preserved g c = let inv = c.loop.invariant in let e = c.compare_exchange-found.ensures in record {
  table = e.0 ∙ inv.table;
  same = e.1 ∙ inv.same;
  trying = trying_next c.loop.turn c.compare_exchange-found.result c.args.seat.now.me c.loop.seat.me c.compare_exchange-found.new.seat.me inv.trying (e.2.1 c.if-found-start.false);
}
