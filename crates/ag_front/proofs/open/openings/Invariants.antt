use Rattle.std.proofs.Common.{◌≡◌, length}
use Rattle.ag_front.specs.Opens.{OpeningsOf}
use Rattle.ag_front.proofs.open.openings.Given as goal

abbrev pub invariant-loop-k : goal.invariant-loop-k
invariant-loop-k g l = record { long : length l.all ≡ 16; asked : OpeningsOf g.T.Stands.standing l.stripes l.k l.all }
