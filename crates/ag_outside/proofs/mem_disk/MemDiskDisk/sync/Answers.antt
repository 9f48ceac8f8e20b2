use Rattle.std.proofs.Common.{inl}
use Rattle.ag_outside.specs.MemDisks.{mem_reads}
use Rattle.ag_outside.proofs.Past.{still_to, synced-time, synced-only}
use Rattle.ag_outside.proofs.mem_disk.MemDiskDisk.sync.Goals as goal

pub returns-then-fails-clause-cause : goal.returns-then-fails-clause-cause
returns-then-fails-clause-cause c = record { later = c.fails.ensures.later; failed = λ _. c.fails.ensures.risen c.if-fails.true }

pub returns-in_err-push-clause-time : goal.returns-in_err-push-clause-time
returns-in_err-push-clause-time c = still_to _ _ _ _ c.in_err-push.ensures.items

pub returns-in_ok-push-clause-durable : goal.returns-in_ok-push-clause-durable
returns-in_ok-push-clause-durable c = synced-only _ _ _ _ c.in_ok-push.ensures.items

pub returns-in_ok-push-clause-crash : goal.returns-in_ok-push-clause-crash
returns-in_ok-push-clause-crash c = λ at content is. inl (inl (synced-only _ (mem_reads c.args.self.now) _ _ c.in_ok-push.ensures.items at content is))

pub returns-in_ok-push-clause-time : goal.returns-in_ok-push-clause-time
returns-in_ok-push-clause-time c = synced-time _ _ _ _ c.if-self.true c.in_ok-push.ensures.items
