use Rattle.ag_pool.proofs.Stripes.{frame-redone, frame-other, lsns-redone, lsns-other, pool-redone}
use Rattle.ag_pool.proofs.laws.frames.Goals as goal

pub returns-clause-frames : goal.returns-clause-frames
returns-clause-frames c = frame-redone

pub returns-clause-others : goal.returns-clause-others
returns-clause-others c = frame-other

pub returns-clause-lsns : goal.returns-clause-lsns
returns-clause-lsns c = lsns-redone

pub returns-clause-other_lsns : goal.returns-clause-other_lsns
returns-clause-other_lsns c = lsns-other

pub returns-clause-pool : goal.returns-clause-pool
returns-clause-pool c = pool-redone
