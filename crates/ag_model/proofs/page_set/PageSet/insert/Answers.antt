use Rattle.ag_model.proofs.PageSets.{with-page}
use Rattle.ag_model.proofs.page_set.PageSet.insert.Goals as goal

pub returns : goal.returns
returns c = rw (← c.self.view_is) (with-page c.self.inside.bytes c.args.page c.self.told c.requires.low c.requires.high)
