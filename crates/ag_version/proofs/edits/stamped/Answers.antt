use Rattle.std.proofs.Common.{arith}
use Rattle.ag_version.proofs.Stamping.{stamps_own, stamps_other}
use Rattle.ag_version.proofs.edits.stamped.Goals as goal
use Rattle.ag_version.proofs.edits.stamped.Goals.{then-version-txn, else-version-txn}

pub loop-version-preserved : goal.loop-version-preserved
loop-version-preserved c =
    elim c.if-version-txn.branch [
      | then-version-txn w ↦ stamps_own c.args.commit.0 c.args.commit.1 c.args.versions c.loop-version.version-items c.if-version-txn.version-items c.loop-version.version-index _ (omega (arith, c.loop-version-test.true, c.loop-version.auto.version-items)) c.loop-version.invariant w.if-version-txn.true w.version-items-is
      | else-version-txn w ↦ stamps_other c.args.commit.0 c.args.commit.1 c.args.versions c.loop-version.version-items c.if-version-txn.version-items c.loop-version.version-index _ (omega (arith, c.loop-version-test.true, c.loop-version.auto.version-items)) c.loop-version.invariant w.if-version-txn.false w.version-items-is
    ]
