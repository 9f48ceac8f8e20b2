use Rattle.std.proofs.Common.{◌-◌, length}
use Rattle.ag_script.proofs.PairLemmas.{PairsSoFar}
use Rattle.ag_script.proofs.pairs.pairs_of.Given as goal

abbrev pub invariant-pairs : goal.invariant-pairs
invariant-pairs l = PairsSoFar l.fn.words l.words l.pairs

abbrev pub decreases-pairs : goal.decreases-pairs
decreases-pairs l = 8 - length l.pairs
