use Rattle.ag_front.proofs.Waits.{waiting_first, waited_front, front_ends}
use Rattle.ag_front.proofs.shared.Front.read.Goals as goal

pub loop-init : goal.loop-init
loop-init g c = let e = c.front-at.ensures in record {
  table = e.own.0;
  same = e.own.1;
  waiting = waiting_first c.front-at.result c.args.pass.now.seat.me.0 c.front-at.new.pass.seat.me.0 e.only e.least e.seen_before e.loads;
}

pub returns-in-Ok-clause-end : goal.returns-in-Ok-clause-end
returns-in-Ok-clause-end g c = let v = c.in-Ok.ensures.visited in let w = c.loop.invariant.waiting in
    let f = waited_front c.front-at.result _ _ c.args.pass.now.seat.me.0 c.loop.pass.seat.me c.try_read.new.pass.seat.me w v in
    front_ends c.try_read.new.pass.seat.me.0 c.front-at.result v.sound f.0 c.in-Ok.ensures.row.reached
