use Rattle.std.proofs.Common.{◌||◌, ◌&&◌, ◌<◌, length, get_or, take, ◌+◌, sym, arith, eqb}
use Rattle.std.proofs.lemmas.Result.{err_from_is_err_and}
use Rattle.std.proofs.lemmas.List.Folds.{list_any_more}
use Rattle.ag_model.specs.Rows.{contains, touches}
use Rattle.ag_stripe.specs.Tables.{is_own}
use Rattle.ag_stripe.proofs.Edits.{edits-then, edits-since}
use Rattle.ag_stripe.proofs.Readings.{same-then}
use Rattle.ag_stripe.proofs.Redone.{redone-more, redone-as, refusal-first}
use Rattle.ag_stripe.proofs.redoing.redo_listed.Goals as goal

pub returns-in_err-redo_on-clause-refused : goal.returns-in_err-redo_on-clause-refused
returns-in_err-redo_on-clause-refused c =
    let inv = c.loop-page.invariant in
    let p = err_from_is_err_and c.from_residual.result c.from_residual.ensures.1 in
    rw (p.1, p.2) (refusal-first c.args.table.now c.loop-page.table c.args.lsn c.args.entry.now (λ q. contains q (take c.loop-page.page-index c.args.pages.now)) _ inv.same inv.redone c.in_err-redo_on.ensures.refused)

pub returns-in_err-redo_on-clause-edits : goal.returns-in_err-redo_on-clause-edits
returns-in_err-redo_on-clause-edits c =
    let inv = c.loop-page.invariant in
    let start = c.args.table.now in
    let old = c.loop-page.table in
    let new = c.redo_on.new.self in
    edits-then start old new (λ q. is_own start q && touches start.pages q c.args.entry.now) inv.edits (edits-since start old new c.args.entry.now inv.same c.redo_on.ensures.edits)

pub loop-page-preserved : goal.loop-page-preserved
loop-page-preserved c =
    let inv = c.loop-page.invariant in
    let i = c.loop-page.page-index in
    let pages = c.args.pages.now in
    let start = c.args.table.now in
    let old = c.loop-page.table in
    let new = c.redo_on.new.self in
    let lt : i < length pages = omega arith in
    record {
      same = same-then start old new inv.same c.redo_on.ensures.same;
      redone = redone-as start new c.args.lsn c.args.entry.now (λ q. contains q (take i pages) || eqb q (get_or pages i 0)) (λ q. contains q (take (i + 1) pages)) (λ q. sym (list_any_more (eqb q) pages i 0 lt))
          (redone-more start old new c.args.lsn c.args.entry.now (λ q. contains q (take i pages)) (λ q. eqb q (get_or pages i 0)) inv.same inv.redone c.in_ok-redo_on.ensures.redone);
      edits = edits-then start old new (λ q. is_own start q && touches start.pages q c.args.entry.now) inv.edits (edits-since start old new c.args.entry.now inv.same c.redo_on.ensures.edits);
    }
