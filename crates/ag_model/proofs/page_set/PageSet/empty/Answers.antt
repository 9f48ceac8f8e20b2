use Rattle.std.proofs.Common.{refl, replicate, arith}
use Rattle.ag_model.proofs.PageSets.{no_page, get_or-zeros}
use Rattle.ag_model.proofs.page_set.PageSet.empty.Goals as goal

pub returns : goal.returns
returns c = no_page (replicate 256 0) refl

pub invariant_of-result : goal.invariant_of-result
invariant_of-result c = (refl, λ i. omega (arith, get_or-zeros (replicate 256 0) i refl))
