use Rattle.std.proofs.Common.{◌≡◌, ◌∙◌, rules}
use Rattle.ag_version.specs.Edits.{after_abort}
use Rattle.ag_version.proofs.Redone.{redo_abort, parts}
use Rattle.ag_version.proofs.edits.abort.Goals as goal

pub returns-clause-redo : goal.returns-clause-redo
returns-clause-redo c = λ listed pages log due.
    let v = c.args.v.now in
    let e : parts v.page c.args.lsn v.horizon c.replace_with.new.dest ≡ after_abort c.args.lsn c.args.txn v = search rules in
    e ∙ redo_abort pages c.args.lsn c.args.txn listed log v due
