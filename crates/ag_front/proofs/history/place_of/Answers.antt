use Rattle.ag_ends.proofs.Places.{found, not_missed}
use Rattle.ag_front.proofs.history.place_of.Goals as goal

pub unreachable-requires : goal.unreachable-requires
unreachable-requires c = not_missed 0 c.args.lsn c.in-Err.field-0 c.args.ends.now c.requires.rises c.requires.there c.in-Err.ensures.position

pub returns-clause-inside : goal.returns-clause-inside
returns-clause-inside c = (found 0 c.args.lsn c.in-Ok.place c.args.ends.now c.requires.rises c.in-Ok.ensures.position).0

pub returns-clause-is : goal.returns-clause-is
returns-clause-is c = (found 0 c.args.lsn c.in-Ok.place c.args.ends.now c.requires.rises c.in-Ok.ensures.position).1
