use Rattle.std.proofs.Common.{◌≡◌, ◌+◌, arith, ◌∙◌}
use Rattle.ag_front.proofs.Keeps.{joins, loads}
use Rattle.ag_front.proofs.shared.Front.join.Goals as goal

pub join_seat-requires : goal.join_seat-requires
join_seat-requires g c = let wide = c.args.self.now.sized.0 in let p = c.args.pass.now in let q = c.args.other in
    (c.requires.own.0, c.requires.own.1, q.free.0, omega arith, joins _ _ _ _ _ _ p.some_part q.some_part p.free.1 q.free.1)

pub load-requires : goal.load-requires
load-requires g c = let wide = c.args.self.now.sized.0 in let e = c.join_seat.ensures in let a = c.args.pass.now.some_part in let b = c.args.other.some_part in
    let same : c.join_seat.new.seat.me.0.parts ≡ c.args.pass.now.seat.me.0.parts + c.args.other.seat.me.0.parts = λ i. ((e.2 i).0).parts in
    (e.0 ∙ c.requires.own.0, omega arith, loads _ _ _ _ _ 0 (omega arith) (omega arith))
