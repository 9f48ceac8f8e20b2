use Rattle.std.proofs.Common.{◌+◌, ◌<◌, length, arith}
use Rattle.std.proofs.lemmas.Result.{err_from_is_err_and}
use Rattle.ag_stripe.specs.Redo.{is_touched}
use Rattle.ag_stripe.proofs.Readings.{same-then}
use Rattle.ag_stripe.proofs.Ahead.{kept-step, dirty-more-records, values-step, refused-step}
use Rattle.ag_stripe.proofs.Edits.{edits-then, edits-touched}
use Rattle.ag_stripe.proofs.redoing.redo_all.Goals as goal

pub returns-in_err-redo-clause-refused : goal.returns-in_err-redo-clause-refused
returns-in_err-redo-clause-refused c =
    let inv = c.loop-entry.invariant in
    let i = c.loop-entry.entry-index in
    let lt : i < length c.args.records.now = omega arith in
    let p = err_from_is_err_and c.from_residual.result c.from_residual.ensures.1 in
    rw (p.1, p.2) (refused-step c.args.table.now c.loop-entry.table c.redo.new.table c.args.applied c.loop-entry.lsn i c.args.records.now c.entry-item.result inv.same lt c.entry-item.is inv.lsn inv.kept _ c.in_err-redo.ensures.refused inv.values)

pub returns-in_err-redo-clause-edits : goal.returns-in_err-redo-clause-edits
returns-in_err-redo-clause-edits c =
    let inv = c.loop-entry.invariant in
    let i = c.loop-entry.entry-index in
    let records = c.args.records.now in
    let start = c.args.table.now in
    let old = c.loop-entry.table in
    let new = c.redo.new.table in
    let lt : i < length records = omega arith in
    edits-then start old new (is_touched start records) inv.edits (edits-touched start old new records c.entry-item.result i inv.same lt c.entry-item.is c.redo.ensures.edits)

pub loop-entry-preserved : goal.loop-entry-preserved
loop-entry-preserved c =
    let inv = c.loop-entry.invariant in
    let i = c.loop-entry.entry-index in
    let records = c.args.records.now in
    let start = c.args.table.now in
    let old = c.loop-entry.table in
    let new = c.redo.new.table in
    let lsn = c.loop-entry.lsn in
    let r = c.entry-item.result in
    let lt : i < length records = omega arith in
    let redone = c.in_ok-redo.ensures.redone in
    record {
      lsn = omega (arith, inv.lsn);
      same = same-then start old new inv.same c.redo.ensures.same;
      kept = λ q k. kept-step old new (lsn + 1) r redone q (inv.kept q k);
      edits = edits-then start old new (is_touched start records) inv.edits (edits-touched start old new records r i inv.same lt c.entry-item.is c.redo.ensures.edits);
      dirty = dirty-more-records start old new (lsn + 1) i records r inv.same lt c.entry-item.is redone inv.dirty;
      values = λ told log page stand all own ahead. values-step start old new c.args.applied lsn i records r inv.same lt c.entry-item.is inv.lsn inv.kept redone told log page stand all own (inv.values told log page stand all own ahead);
    }
