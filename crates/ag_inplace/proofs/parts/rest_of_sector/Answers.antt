use Rattle.ag_inplace.proofs.Sectors.{rest-is}
use Rattle.ag_inplace.proofs.parts.rest_of_sector.Goals as goal

pub returns-clause-bytes : goal.returns-clause-bytes
returns-clause-bytes c = rest-is c.args.i.now c.args.at c.told-i c.requires.whole c.requires.place
