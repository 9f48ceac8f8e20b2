use Rattle.ag_outside.proofs.mem_disk.MemDiskDisk.write.Goals as goal

pub returns-then-fails-clause-cause : goal.returns-then-fails-clause-cause
returns-then-fails-clause-cause c = record { later = c.fails.ensures.later; failed = λ _. c.fails.ensures.risen c.if-fails.true }
