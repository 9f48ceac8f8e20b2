use Rattle.std.proofs.Common.{◌+◌, length, ap, ◌∙◌}
use Rattle.ag_writes_t.specs.RowHomes.{reached_by}
use Rattle.ag_writes_t.proofs.RowHomes.{data_rows, pass_same}
use Rattle.ag_writes_t.proofs.home.RowHome.pass.Goals as goal

pub returns-clause-reached : goal.returns-clause-reached
returns-clause-reached c =
    ap (λ e. reached_by e c.args.order c.add_all.new.rows (c.args.self.now.steps + length c.args.batch.now) (c.args.self.now.writes + length c.args.batch.now)) c.requires.goes_on
    ∙ pass_same c.args.order c.args.self.now.order c.args.self.now.rows c.add_all.new.rows c.args.self.now.steps c.args.self.now.writes c.args.batch.now c.requires.room.0 c.in_ok-add_all.ensures

pub add_all-requires : goal.add_all-requires
add_all-requires c = data_rows c.args.batch.now c.requires.room.0
