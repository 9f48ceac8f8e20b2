use Rattle.std.proofs.Common.{rules, ◌≡◌, false}
use Rattle.ag_model.specs.Rows.{touches}
use Rattle.ag_threads_t.proofs.Pages.{stays}
use Rattle.ag_threads_t.proofs.one_page.redo.Goals as goal

pub returns-else-has-clause-redone : goal.returns-else-has-clause-redone
returns-else-has-clause-redone g c = let off : touches 16 c.args.v.now.page c.args.entry.now ≡ false = search rules in
    λ log proper low high at is. stays c.args.v.now.page c.args.lsn log c.args.entry.now c.args.v.now proper low high at off is

pub returns-else-has-2-clause-redone : goal.returns-else-has-2-clause-redone
returns-else-has-2-clause-redone g c = let off : touches 16 c.args.v.now.page c.args.entry.now ≡ false = search rules in
    λ log proper low high at is. stays c.args.v.now.page c.args.lsn log c.args.entry.now c.args.v.now proper low high at off is

pub returns-else-page-v-clause-redone : goal.returns-else-page-v-clause-redone
returns-else-page-v-clause-redone g c = let off : touches 16 c.args.v.now.page c.args.entry.now ≡ false = search rules in
    λ log proper low high at is. stays c.args.v.now.page c.args.lsn log c.args.entry.now c.args.v.now proper low high at off is

pub returns-in-Term-clause-redone : goal.returns-in-Term-clause-redone
returns-in-Term-clause-redone g c = let off : touches 16 c.args.v.now.page c.args.entry.now ≡ false = search rules in
    λ log proper low high at is. stays c.args.v.now.page c.args.lsn log c.args.entry.now c.args.v.now proper low high at off is
