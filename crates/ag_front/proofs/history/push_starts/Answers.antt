use Rattle.std.proofs.Common.{◌≡◌, ◌+◌, ◌++◌, arith}
use Rattle.ag_model.specs.Starts.{start_by}
use Rattle.ag_ends.proofs.Starts.{starts_step}
use Rattle.ag_front.proofs.history.push_starts.Goals as goal

pub loop-record-preserved : goal.loop-record-preserved
loop-record-preserved c =
    let next : c.push_start.new.starts.items ≡ c.loop-record.starts.items ++ start_by (c.loop-record.lsn + 1) c.record-item.result = grind arith in (
      omega arith,
      starts_step c.args.starts.now.items c.loop-record.starts.items c.push_start.new.starts.items c.args.before c.loop-record.lsn c.loop-record.record-index c.args.records.now
          c.record-item.result (omega arith) c.record-item.is c.loop-record.invariant.0 c.loop-record.invariant.1 next,
    )
