use Rattle.ag_frame.proofs.Entries.{free_shown}
use Rattle.ag_frame.proofs.frames.Frames.with_frames.Goals as goal

pub returns-clause-free : goal.returns-clause-free
returns-clause-free g c = free_shown c.loop-number.cache.entries c.loop-number.invariant.2
