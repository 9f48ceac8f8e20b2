use Rattle.std.proofs.Common.{◌+◌, ℕ, [], get_or, IsTrue, ap, sym, ◌∙◌, subst, Err, arith}
use Rattle.std.proofs.lemmas.Result.{err_from_is_err_and}
use Rattle.std.proofs.lemmas.List.{length-set}
use Rattle.ag_outside.specs.declared.disk.DiskError.{DiskError}
use Rattle.ag_model.specs.declared.answer.Cell.TheVariants.{Lost}
use Rattle.ag_outside.specs.Disks.{Image}
use Rattle.ag_pagestore.specs.Found.{IsSector}
use Rattle.ag_pagestore.proofs.Faults.{failed_is}
use Rattle.ag_pagestore.specs.Calling.{reads_both, same_images}
use Rattle.ag_pagestore.proofs.Leading.{reads_fail}
use Rattle.ag_pagestore.proofs.Sixteen.{all_found, sector_more, elapses_on}
use Rattle.ag_pagestore.proofs.sectors.read_sectors.Goals as goal

pub returns-in_err-cells-clause-broken : goal.returns-in_err-cells-clause-broken
returns-in_err-cells-clause-broken g c = λ failed.
    let e = failed_is c.from_residual.result c.in_err-cells.field-0.0 (err_from_is_err_and c.from_residual.result c.from_residual.ensures.1) failed in
    reads_fail g.D.Disk.did c.args.disk.now c.loop-i.disk c.loop-i.invariant.calls c.read_sector.new.disk (c.read_sector.ensures.broken (c.in_err-cells.was ∙ ap (λ (x : DiskError). Err x) e))

pub returns-in_err-cells-clause-calls : goal.returns-in_err-cells-clause-calls
returns-in_err-cells-clause-calls g c = reads_both g.D.Disk.did c.args.disk.now c.loop-i.disk c.loop-i.invariant.calls c.read_sector.new.disk c.read_sector.ensures.calls

pub loop-i-preserved : goal.loop-i-preserved
loop-i-preserved g c =
    let d = c.args.disk.now in
    let mid = c.loop-i.disk in
    let new = c.read_sector.new.disk in
    let so_far = c.loop-i.invariant in
    let did = c.in_ok-cells.ensures in
    record {
      cells_whole = length-set c.loop-i.cells c.loop-i.i c.in_ok-cells.field-0 ∙ so_far.cells_whole;
      image_whole = length-set c.loop-i.into c.loop-i.i _ ∙ so_far.image_whole;
      found = λ keeps. sector_more (g.D.Disk.reads d) c.place-first.result c.loop-i.i c.loop-i.cells c.in_ok-cells.field-0 c.loop-i.into _ (omega arith) (omega arith) (so_far.found keeps)
          (subst (λ (im : Image). IsSector (im (c.place-first.result + c.loop-i.i)) c.in_ok-cells.field-0 c.read_sector.new.into) so_far.reads (did.found (subst IsTrue (sym so_far.keeps) keeps)));
      calls = reads_both g.D.Disk.did d mid so_far.calls new (did.calls);
      reads = did.reads ∙ so_far.reads;
      crash = same_images (g.D.Disk.may_hold d) (g.D.Disk.may_hold mid) (g.D.Disk.may_hold new) so_far.crash did.crash;
      time = elapses_on (g.D.Disk.traced d) (g.D.Disk.traced mid) (g.D.Disk.moment d) (g.D.Disk.moment mid) (g.D.Disk.moment new) (g.D.Disk.left_since d) (g.D.Disk.left_since mid) (g.D.Disk.left_since new) (g.D.Disk.may_hold mid) (g.D.Disk.may_hold new) so_far.traced so_far.time did.time did.crash;
      faults = omega (arith, so_far.faults, did.cause.later);
      size = did.size ∙ so_far.size;
      keeps = did.keeps ∙ so_far.keeps;
      traced = did.traced ∙ so_far.traced;
    }

pub returns-clause-found : goal.returns-clause-found
returns-clause-found g c = λ keeps.
    let so_far = c.loop-i.invariant in
    all_found (g.D.Disk.reads c.args.disk.now) c.args.page c.loop-i.cells c.loop-i.into so_far.cells_whole so_far.image_whole
    (λ k lt. subst (λ (p : ℕ). IsSector (g.D.Disk.reads c.args.disk.now (p + k)) (get_or c.loop-i.cells k Lost) (get_or c.loop-i.into k [])) c.place-first.ensures (so_far.found keeps k (omega arith)))
