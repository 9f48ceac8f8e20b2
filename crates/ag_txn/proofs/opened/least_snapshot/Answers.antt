use Rattle.std.proofs.Common.{◌≤◌, ◌∙◌, [], ap, length, arith}
use Rattle.ag_rules.specs.Replica.{least}
use Rattle.ag_txn.specs.declared.opened.OpenTxn.{OpenTxn}
use Rattle.ag_txn.proofs.Lists.{some_first, least-all, snapshots_plain}
use Rattle.ag_txn.proofs.opened.least_snapshot.Goals as goal

pub returns : goal.returns
returns c =
    let le : length c.args.txns.now ≤ c.loop-open.open-index = omega (arith, c.loop-open-test.false) in
    least-all (λ (o : OpenTxn). o.snapshot) c.args.txns.now c.loop-open.open-index c.loop-open.least (record { txn = 0; snapshot = 0; touched = [] })
    (some_first c.args.txns.now c.in_ok-first.first.now c.in_ok-first.ensures.value) le c.loop-open.invariant
    ∙ ap least (snapshots_plain c.args.txns.now)
