use Rattle.ag_model.specs.declared.value.PageValue.{PageValue}
use Rattle.ag_inplace.specs.Spelled.{Spells}
use Rattle.ag_inplace.proofs.Listed.{IsFilledTo}
use Rattle.ag_inplace.proofs.directory.directory_of.Given as goal

abbrev pub invariant-loop-k : goal.invariant-loop-k
invariant-loop-k l = (v : PageValue) → Spells l.i v → IsFilledTo v.versions l.k l.at l.places
