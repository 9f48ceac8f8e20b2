use Rattle.std.proofs.Common.{◌≡◌, length}
use Rattle.ag_front.specs.Opens.{AppliedOf}
use Rattle.ag_front.proofs.open.applieds.Given as goal

abbrev pub invariant-loop-k : goal.invariant-loop-k
invariant-loop-k g l = record { long : length l.all ≡ 16; asked : AppliedOf g.T.Stands.standing l.stripes l.k l.all }
