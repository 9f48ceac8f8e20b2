use Rattle.std.proofs.Common.{◌∙◌}
use Rattle.ag_outside.proofs.Puts.{newest_more}
use Rattle.ag_outside.proofs.handing.newest.Goals as goal

pub writes-preserved : goal.writes-preserved
writes-preserved c = newest_more c.writes.found c.newer-found.result c.args.unsynced.now c.writes.write-index c.args.at c.writes-test.true c.newer-found.ensures ∙ c.writes.invariant
