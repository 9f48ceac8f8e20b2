use Rattle.std.proofs.Common.{◌∙◌, arith}
use Rattle.ag_suspect.specs.Rows.{rows_sector}
use Rattle.ag_suspect.proofs.Bytes.{one_more, all_put}
use Rattle.ag_suspect.proofs.row.encode.Goals as goal

pub loop-i-preserved : goal.loop-i-preserved
loop-i-preserved c = one_more c.args.rows.now c.loop-i.i c.loop-i.bytes _ (omega arith) (omega arith) c.loop-i.invariant c.put.ensures

pub returns : goal.returns
unfolding rows_sector
returns c = c.loop-i.invariant ∙ all_put c.args.rows.now c.loop-i.i (omega arith)
