use Rattle.std.proofs.Common.{◌≡◌, ◌∙◌, rules}
use Rattle.ag_version.specs.Edits.{after_trim}
use Rattle.ag_version.proofs.Redone.{redo_trim, parts}
use Rattle.ag_version.proofs.trimming.trim.Goals as goal

pub returns-clause-redo : goal.returns-clause-redo
returns-clause-redo c = λ pages log due.
    let v = c.args.v.now in
    let e : parts v.page c.args.lsn c.max-v.result c.replace_with.new.dest ≡ after_trim c.args.lsn c.args.horizon v = search rules in
    e ∙ redo_trim pages c.args.lsn c.args.horizon log v due
