use Rattle.std.proofs.Common.{length}
use Rattle.ag_script.proofs.HexLemmas.{Filled}
use Rattle.ag_script.proofs.word.value_of.Given as goal

abbrev pub invariant-pairs : goal.invariant-pairs
invariant-pairs l = Filled l.fn.word l.rest l.value.bytes l.value.len

abbrev pub decreases-pairs : goal.decreases-pairs
decreases-pairs l = length l.rest
