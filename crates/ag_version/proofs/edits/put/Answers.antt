use Rattle.std.proofs.Common.{◌≡◌, ◌∙◌, rules}
use Rattle.ag_version.specs.Edits.{after_change}
use Rattle.ag_version.proofs.Redone.{redo_change, parts}
use Rattle.ag_version.proofs.edits.put.Goals as goal

pub returns-clause-redo : goal.returns-clause-redo
returns-clause-redo c = λ pages log due.
    let v = c.args.v.now in
    let e : parts v.page c.args.lsn v.horizon c.push.new.self ≡ after_change c.args.lsn c.args.txn c.args.key c.args.change.now v = search rules in
    e ∙ redo_change c.args.change.now pages c.args.lsn c.args.txn c.args.key log v due
