use Rattle.ag_outside.proofs.Past.{still}
use Rattle.ag_outside.proofs.mem_disk.MemDiskDisk.read.Goals as goal

pub returns-then-fails-clause-cause : goal.returns-then-fails-clause-cause
returns-then-fails-clause-cause c = record { later = c.fails.ensures.later; failed = λ _. c.fails.ensures.risen c.if-fails.true }

pub returns-clause-time : goal.returns-clause-time
returns-clause-time c = still _ _ _ _
