use Rattle.std.proofs.Common.{◌≡◌, ◌≤◌, take, drop}
use Rattle.std.specs.List.{All}
use Rattle.ag_logblock.specs.Fitting.{IsSector, misfit}
use Rattle.ag_logblock.proofs.joining.misfit.Given as goal

abbrev pub invariant-loop-index : goal.invariant-loop-index
invariant-loop-index l = record {
  same : misfit l.first l.index (drop l.index l.s) ≡ misfit l.first 0 l.s;
  sectors : All IsSector (take l.index l.s);
  least : l.index ≤ 32;
}
