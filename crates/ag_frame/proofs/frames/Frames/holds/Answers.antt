use Rattle.ag_frame.proofs.Entries.{holder_shows}
use Rattle.ag_frame.proofs.frames.Frames.holds.Goals as goal

pub returns : goal.returns
returns g c = rw (← c.self.view_is, c.is_some.ensures, c.frame_of.ensures.value) (holder_shows c.args.page c.self.inside.cache.entries)
