use Rattle.std.proofs.Common.{rules, ◌≡◌, ◌≢◌, false, ne_eqb, ◌∙◌}
use Rattle.ag_model.specs.Rows.{touches, page_of}
use Rattle.ag_version.specs.Steps.{record_of}
use Rattle.ag_threads_t.proofs.Pages.{stays, touches_change}
use Rattle.ag_threads_t.proofs.one_page.change.Goals as goal

pub returns-then-from-key-clause-redone : goal.returns-then-from-key-clause-redone
returns-then-from-key-clause-redone g c =
    let apart : c.args.v.now.page ≢ page_of 16 c.args.key = search rules in
    let off : touches 16 c.args.v.now.page (record_of c.args.txn c.args.key c.args.change.now) ≡ false = touches_change c.args.v.now.page c.args.txn c.args.key c.args.change.now ∙ ne_eqb c.args.v.now.page (page_of 16 c.args.key) apart in
    λ log proper low high at is. stays c.args.v.now.page c.args.lsn log (record_of c.args.txn c.args.key c.args.change.now) c.args.v.now proper low high at off is
