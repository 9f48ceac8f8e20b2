use Rattle.std.proofs.Common.{arith}
use Rattle.ag_front.proofs.Keeps.{splits}
use Rattle.ag_front.proofs.shared.Front.split_as.Goals as goal

pub split_seat-seat-requires : goal.split_seat-seat-requires
split_seat-seat-requires g c = let wide = c.args.self.now.sized.0 in let n = c.requires.count in let p = c.requires.parts in
    (c.requires.own, omega arith, splits _ _ _ _ g.C.Count.count (omega (arith, n)) (omega (arith, n)) c.args.pass.now.free.1)
