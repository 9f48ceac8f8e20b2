use Rattle.std.proofs.Common.{get_or, IsTrue, [], ap, sym, ◌∙◌, subst, Err, arith}
use Rattle.std.proofs.lemmas.Result.{err_from_is_err_and}
use Rattle.std.proofs.lemmas.List.{length-set}
use Rattle.ag_outside.specs.declared.disk.DiskError.{DiskError}
use Rattle.ag_outside.specs.Disks.{Image}
use Rattle.ag_model.specs.Cells.{mark_after}
use Rattle.ag_pagestore.specs.declared.batch.PageWrite.{PageWrite}
use Rattle.ag_pagestore.specs.Places.{page_cells}
use Rattle.ag_pagestore.proofs.Faults.{failed_is}
use Rattle.ag_pagestore.specs.Calling.{reads_both, same_images}
use Rattle.ag_pagestore.proofs.Leading.{reads_fail}
use Rattle.ag_pagestore.proofs.Rising.{place_below, next_more}
use Rattle.ag_pagestore.proofs.Sixteen.{elapses_on}
use Rattle.ag_pagestore.proofs.batch.next_marks.Goals as goal

pub next_mark-requires : goal.next_mark-requires
next_mark-requires g c = place_below 16 c.args.pages.now c.loop-i.i (g.D.Disk.size c.loop-i.disk) _ c.requires.rises (omega arith) (omega (arith, c.loop-i.invariant.size, c.requires.places))

pub returns-in_err-marks-clause-broken : goal.returns-in_err-marks-clause-broken
returns-in_err-marks-clause-broken g c = λ failed.
    let e = failed_is c.from_residual.result c.in_err-marks.field-0.0 (err_from_is_err_and c.from_residual.result c.from_residual.ensures.1) failed in
    reads_fail g.D.Disk.did c.args.disk.now c.loop-i.disk c.loop-i.invariant.calls c.next_mark.new.disk (c.next_mark.ensures.broken (c.in_err-marks.was ∙ ap (λ (x : DiskError). Err x) e))

pub returns-in_err-marks-clause-calls : goal.returns-in_err-marks-clause-calls
returns-in_err-marks-clause-calls g c = reads_both g.D.Disk.did c.args.disk.now c.loop-i.disk c.loop-i.invariant.calls c.next_mark.new.disk c.next_mark.ensures.calls

pub loop-i-preserved : goal.loop-i-preserved
loop-i-preserved g c =
    let d = c.args.disk.now in
    let mid = c.loop-i.disk in
    let new = c.next_mark.new.disk in
    let so_far = c.loop-i.invariant in
    let did = c.in_ok-marks.ensures in
    let none : PageWrite = record { page = 0; image = [] } in
    record {
      whole = length-set c.loop-i.marks c.loop-i.i c.in_ok-marks.field-0 ∙ so_far.whole;
      next = λ keeps. next_more (g.D.Disk.reads d) c.args.pages.now c.loop-i.marks c.loop-i.i c.in_ok-marks.field-0 none (omega arith) (omega (arith, so_far.whole, c.requires.few)) (so_far.next keeps)
          (did.mark (subst IsTrue (sym so_far.keeps) keeps) ∙ ap (λ (im : Image). mark_after (page_cells im (get_or c.args.pages.now c.loop-i.i none).page)) so_far.reads);
      calls = reads_both g.D.Disk.did d mid so_far.calls new (did.calls);
      reads = did.reads ∙ so_far.reads;
      crash = same_images (g.D.Disk.may_hold d) (g.D.Disk.may_hold mid) (g.D.Disk.may_hold new) so_far.crash did.crash;
      time = elapses_on (g.D.Disk.traced d) (g.D.Disk.traced mid) (g.D.Disk.moment d) (g.D.Disk.moment mid) (g.D.Disk.moment new) (g.D.Disk.left_since d) (g.D.Disk.left_since mid) (g.D.Disk.left_since new) (g.D.Disk.may_hold mid) (g.D.Disk.may_hold new) so_far.traced so_far.time did.time did.crash;
      faults = omega (arith, so_far.faults, did.cause.later);
      size = did.size ∙ so_far.size;
      keeps = did.keeps ∙ so_far.keeps;
      traced = did.traced ∙ so_far.traced;
    }
