use Rattle.std.proofs.Common.{arith}
use Rattle.ag_ends.proofs.BlockEnds.{first_block, searched_end, searched_none}
use Rattle.ag_logstore.proofs.search.place_after.Goals as goal

pub returns-then-before-eq0 : goal.returns-then-before-eq0
returns-then-before-eq0 c = grind (arith, first_block 0 c.args.ends.now)

pub returns-in-Ok : goal.returns-in-Ok
returns-in-Ok c = searched_end c.args.ends.now c.args.before c.in-Ok.place c.requires c.in-Ok.ensures.position

pub returns-in-Err : goal.returns-in-Err
returns-in-Err c = searched_none c.args.ends.now c.args.before c.in-Err.field-0 c.requires c.if-before-eq0.false c.in-Err.ensures.position
