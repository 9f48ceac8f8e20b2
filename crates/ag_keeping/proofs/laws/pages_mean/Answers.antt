use Rattle.ag_keeping.proofs.Pages.{pages_mean}
use Rattle.ag_keeping.proofs.laws.pages_mean.Goals as goal

pub returns : goal.returns
returns c = λ pages replica image writes h rises whole within. pages_mean pages replica image h writes rises whole within
