use Rattle.std.proofs.Common.{◌+◌, take}
use Rattle.ag_writes_t.proofs.RowHomes.{data_rows, first_rows, stop_same}
use Rattle.ag_writes_t.proofs.home.RowHome.stop.Goals as goal

pub returns-clause-reached : goal.returns-clause-reached
returns-clause-reached c =
    stop_same c.args.self.now.order c.args.self.now.rows c.add_kept.new.rows c.args.self.now.steps c.args.self.now.writes c.args.write c.args.mask c.in_ok-kept.kept c.args.batch.now c.requires.room.0 c.in_ok-kept.ensures.disk c.in_ok-kept.ensures.steps

pub add_kept-requires-clause-rows : goal.add_kept-requires-clause-rows
add_kept-requires-clause-rows c = data_rows (take (c.args.write + 1) c.args.batch.now) (first_rows c.args.batch.now (c.args.write + 1) c.requires.room.0)
