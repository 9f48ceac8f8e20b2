use Rattle.std.proofs.Common.{arith}
use Rattle.ag_ends.proofs.BlockEnds.{first_block, searched_end, searched_none}
use Rattle.ag_capture.proofs.blocks.place_after.Goals as goal

pub returns-then-before-eq0 : goal.returns-then-before-eq0
returns-then-before-eq0 c = λ rises. grind (arith, first_block 0 c.args.ends.now)

pub returns-in-Ok : goal.returns-in-Ok
returns-in-Ok c = λ rises. searched_end c.args.ends.now c.args.before c.in-Ok.place rises c.in-Ok.ensures.position

pub returns-in-Err : goal.returns-in-Err
returns-in-Err c = λ rises. searched_none c.args.ends.now c.args.before c.in-Err.field-0 rises c.if-before-eq0.false c.in-Err.ensures.position
