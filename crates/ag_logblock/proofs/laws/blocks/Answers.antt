use Rattle.ag_logblock.specs.Block.{sectors_for}
use Rattle.ag_logblock.proofs.Wholes.{block-once, block_again, length-block}
use Rattle.ag_logblock.proofs.laws.blocks.Goals as goal

pub returns-clause-apart : goal.returns-clause-apart
returns-clause-apart c = block-once

pub returns-clause-payload : goal.returns-clause-payload
returns-clause-payload c = λ h p has. (block_again h p has).1

pub returns-clause-sectors : goal.returns-clause-sectors
returns-clause-sectors c = λ h p has. length-block h (sectors_for p) 0 (sectors_for p) p
