use Rattle.std.proofs.Common.{sym}
use Rattle.ag_model.specs.PageBits.{bytes_of-bits}
use Rattle.ag_model.proofs.page_set.PageSet.to_bytes.Goals as goal

pub returns-clause-exact : goal.returns-clause-exact
returns-clause-exact c = rw (← c.self.view_is) (sym (bytes_of-bits c.self.inside.bytes c.self.invariant))
