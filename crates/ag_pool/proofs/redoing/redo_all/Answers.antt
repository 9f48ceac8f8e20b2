use Rattle.std.proofs.Common.{◌≡◌, ℕ, ◌+◌, ◌<◌, ◌≤◌, List, length, refl, ap, ◌∙◌, subst, arith}
use Rattle.std.proofs.lemmas.List.{take_all}
use Rattle.std.proofs.lemmas.Result.{err_from_is_err_and}
use Rattle.ag_model.specs.declared.record.Record.{Record}
use Rattle.ag_model.specs.Rows.{touches}
use Rattle.ag_pool.specs.Passes.{redone_where, IsRefused}
use Rattle.ag_pool.specs.Redo.{each_with_page, redone_page}
use Rattle.ag_pool.proofs.Redone.{all-none, all-more, all-refused}
use Rattle.ag_pool.proofs.redoing.redo_all.Goals as goal

pub loop-entry-init : goal.loop-entry-init
loop-entry-init c = record { lsn = omega arith; count = refl; frames = all-none c.args.x c.args.pages c.args.applied c.args.frames.now.items }

pub returns-in_err-redo_entry-clause-refused : goal.returns-in_err-redo_entry-clause-refused
returns-in_err-redo_entry-clause-refused c =
    let i = c.loop-entry.entry-index in
    let r = c.entry-item.result in
    let old = c.loop-entry.frames.items in
    let lt : i < length c.args.records.now = omega arith in
    let inv = c.loop-entry.invariant in
    let at : c.loop-entry.lsn + 1 ≡ c.args.applied + i + 1 = omega (arith, inv.lsn) in
    let p = err_from_is_err_and c.from_residual.result c.from_residual.ensures.1 in
    rw (p.1, p.2) (all-refused c.args.x c.args.pages c.args.applied i c.args.records.now r lt c.entry-item.is c.args.frames.now.items old c.in_err-redo_entry.field-0.0 inv.frames
    (subst (λ (n : ℕ). IsRefused c.args.x n r (λ q. touches c.args.pages q r) old c.in_err-redo_entry.field-0.0) at c.in_err-redo_entry.ensures.refused))

pub loop-entry-preserved : goal.loop-entry-preserved
loop-entry-preserved c =
    let i = c.loop-entry.entry-index in
    let r = c.entry-item.result in
    let old = c.loop-entry.frames.items in
    let new = c.redo_entry.new.frames.items in
    let lt : i < length c.args.records.now = omega arith in
    let inv = c.loop-entry.invariant in
    let at : c.loop-entry.lsn + 1 ≡ c.args.applied + i + 1 = omega (arith, inv.lsn) in
    record {
      lsn = omega (arith, inv.lsn);
      count = c.redo_entry.ensures.count ∙ inv.count;
      frames = all-more c.args.x c.args.pages c.args.applied i c.args.records.now r lt c.entry-item.is c.args.frames.now.items old new inv.frames
          (subst (λ (n : ℕ). new ≡ each_with_page (redone_where c.args.x n r (λ q. touches c.args.pages q r)) old) at c.in_ok-redo_entry.ensures.redone);
    }

pub returns-clause-redone : goal.returns-clause-redone
returns-clause-redone c =
    let le : length c.args.records.now ≤ c.loop-entry.entry-index = omega (arith, c.loop-entry-test.false) in
    c.loop-entry.invariant.frames ∙ ap (λ (l : List Record). each_with_page (redone_page c.args.x c.args.pages c.args.applied l) c.args.frames.now.items)
    (take_all c.loop-entry.entry-index c.args.records.now le)
