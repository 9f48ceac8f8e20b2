use Rattle.std.proofs.Common.{◌<◌, ◌+◌, length, take, get_or, refl, sym, eqb, ◌∙◌, arith}
use Rattle.std.proofs.lemmas.Result.{err_from_is_err_and}
use Rattle.std.proofs.lemmas.List.Folds.{list_any_more, list_any_at}
use Rattle.ag_model.specs.Rows.{contains}
use Rattle.ag_pool.proofs.Passes.{redone-none, redone-more, refused-first}
use Rattle.ag_pool.proofs.redoing.redo_listed.Goals as goal

pub loop-page-init : goal.loop-page-init
loop-page-init c = record { count = refl; frames = redone-none c.args.x c.args.lsn c.args.entry.now c.args.frames.now.items }

pub returns-in_err-redo_on-clause-refused : goal.returns-in_err-redo_on-clause-refused
returns-in_err-redo_on-clause-refused c =
    let i = c.loop-page.page-index in
    let listed = c.args.listed.now in
    let lt : i < length listed = omega arith in
    let p = err_from_is_err_and c.from_residual.result c.from_residual.ensures.1 in
    rw (p.1, p.2) (refused-first c.args.x c.args.lsn c.args.entry.now (λ q. contains q (take i listed)) (λ q. eqb q (get_or listed i 0))
    (λ q. contains q listed) c.args.frames.now.items c.loop-page.frames.items _
    (λ q on. list_any_at (eqb q) listed i 0 lt on) c.loop-page.invariant.frames c.in_err-redo_on.ensures.refused)

pub loop-page-preserved : goal.loop-page-preserved
loop-page-preserved c =
    let i = c.loop-page.page-index in
    let listed = c.args.listed.now in
    let lt : i < length listed = omega arith in
    record {
      count = c.redo_on.ensures.count ∙ c.loop-page.invariant.count;
      frames = redone-more c.args.x c.args.lsn c.args.entry.now (λ q. contains q (take i listed)) (λ q. eqb q (get_or listed i 0))
          (λ q. contains q (take (i + 1) listed)) c.args.frames.now.items c.loop-page.frames.items c.redo_on.new.frames.items
          (λ q. sym (list_any_more (eqb q) listed i 0 lt)) c.loop-page.invariant.frames c.in_ok-redo_on.ensures.redone;
    }
