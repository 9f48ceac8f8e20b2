use Rattle.std.proofs.Common.{◌≡◌, ℕ, [], get_or, IsTrue, ap, sym, ◌∙◌, subst, Err, Result, arith}
use Rattle.std.proofs.lemmas.Result.{err_from_is_err_and}
use Rattle.ag_lists.proofs.Each.{all_take_more}
use Rattle.ag_outside.specs.declared.disk.DiskError.{DiskError}
use Rattle.ag_outside.specs.Calls.{Write_call}
use Rattle.ag_outside.proofs.Running.{goes_on}
use Rattle.ag_page.specs.Home.{with_mark}
use Rattle.ag_pagestore.specs.declared.batch.PageWrite.{PageWrite}
use Rattle.ag_pagestore.specs.Batches.{IsWhole, marked}
use Rattle.ag_pagestore.specs.Moments.{IsPartOf}
use Rattle.ag_pagestore.proofs.Faults.{failed_is}
use Rattle.ag_pagestore.proofs.Rising.{landed_more, crash_more, calls_more, broken_at, part_more}
use Rattle.ag_pagestore.proofs.batch.write_pages.Goals as goal

pub returns-in_err-write-clause-broken : goal.returns-in_err-write-clause-broken
returns-in_err-write-clause-broken g c = λ failed keeps.
    let d = c.args.disk.now in
    let disk = g.D.Disk.reads d in
    let none : PageWrite = record { page = 0; image = [] } in
    let here = get_or c.args.pages.now c.loop-i.i none in
    let so_far = c.loop-i.invariant in
    let is = c.with_mark-image.ensures.marked ∙ ap (λ (m : ℕ). with_mark m here.image) (c.requires.marks keeps c.loop-i.i none c.loop-i-test.true) in
    let e = failed_is c.from_residual.result c.in_err-write.field-0.0 (err_from_is_err_and c.from_residual.result c.from_residual.ensures.1) failed in
    broken_at disk c.args.pages.now c.loop-i.i none c.loop-i-test.true c.place.result c.with_mark-image.result c.place.ensures is g.D.Disk.did d c.loop-i.disk c.write.new.self (so_far.calls keeps)
    (subst (λ (r : Result (Unit {0}) DiskError). g.D.Disk.did c.loop-i.disk (Write_call c.place.result c.with_mark-image.result r) c.write.new.self) (c.in_err-write.was ∙ ap (λ (x : DiskError). Err x) e) c.write.ensures.did)

pub returns-in_err-write-clause-any_moment : goal.returns-in_err-write-clause-any_moment
returns-in_err-write-clause-any_moment g c =
    let d = c.args.disk.now in
    let disk = g.D.Disk.reads d in
    let none : PageWrite = record { page = 0; image = [] } in
    let here = get_or c.args.pages.now c.loop-i.i none in
    let so_far = c.loop-i.invariant in
    let new = c.write.new.self in
    let whole = all_take_more IsWhole c.args.pages.now c.loop-i.i none c.loop-i-test.true so_far.whole (c.with_mark-image.ensures.sectors, c.with_mark-image.ensures.bytes) in
    let hold = g.D.Disk.may_hold in
    goes_on g.D.Disk.moment g.D.Disk.left_since d c.loop-i.disk new (IsPartOf (hold d) disk c.args.pages.now) _ _ so_far.any_moment c.write.ensures.time
    (λ image at_new.
    let keeps = subst IsTrue (c.write.ensures.keeps ∙ so_far.keeps) (g.met.D.Disk.tells new 0 (image 0) (at_new 0)) in
    let is = c.with_mark-image.ensures.marked ∙ ap (λ (m : ℕ). with_mark m here.image) (c.requires.marks keeps c.loop-i.i none c.loop-i-test.true) in
    part_more disk c.args.pages.now c.loop-i.i none c.loop-i-test.true c.place.result c.with_mark-image.result c.place.ensures is (hold d) (hold c.loop-i.disk) (hold new) (so_far.crash keeps) c.write.ensures.crash whole image at_new)

pub loop-i-preserved : goal.loop-i-preserved
loop-i-preserved g c =
    let d = c.args.disk.now in
    let disk = g.D.Disk.reads d in
    let none : PageWrite = record { page = 0; image = [] } in
    let here = get_or c.args.pages.now c.loop-i.i none in
    let so_far = c.loop-i.invariant in
    let mid = c.loop-i.disk in
    let new = c.write.new.self in
    let whole = all_take_more IsWhole c.args.pages.now c.loop-i.i none c.loop-i-test.true so_far.whole (c.with_mark-image.ensures.sectors, c.with_mark-image.ensures.bytes) in
    let hold = g.D.Disk.may_hold in
    let did = c.in_ok-write.ensures in
    let is : IsTrue (g.D.Disk.keeps d) → c.with_mark-image.result ≡ marked disk here = λ keeps. c.with_mark-image.ensures.marked ∙ ap (λ (m : ℕ). with_mark m here.image) (c.requires.marks keeps c.loop-i.i none c.loop-i-test.true) in
    record {
      whole = whole;
      landed = λ keeps. landed_more disk c.args.pages.now c.loop-i.i none c.loop-i-test.true c.place.result c.with_mark-image.result c.place.ensures (is keeps) (g.D.Disk.reads mid) (g.D.Disk.reads new) (so_far.landed keeps) (did.written (subst IsTrue (sym so_far.keeps) keeps));
      calls = λ keeps. calls_more disk c.args.pages.now c.loop-i.i none c.loop-i-test.true c.place.result c.with_mark-image.result c.place.ensures (is keeps) g.D.Disk.did d mid new (so_far.calls keeps)
          (subst (λ (r : Result (Unit {0}) DiskError). g.D.Disk.did mid (Write_call c.place.result c.with_mark-image.result r) new) c.in_ok-write.was c.write.ensures.did);
      crash = λ keeps. crash_more disk c.args.pages.now c.loop-i.i none c.loop-i-test.true c.place.result c.with_mark-image.result c.place.ensures (is keeps) (hold d) (hold mid) (hold new) (so_far.crash keeps) c.write.ensures.crash;
      any_moment = goes_on g.D.Disk.moment g.D.Disk.left_since d mid new (IsPartOf (hold d) disk c.args.pages.now) _ _ so_far.any_moment c.write.ensures.time
          (λ image at_new.
          let keeps = subst IsTrue (c.write.ensures.keeps ∙ so_far.keeps) (g.met.D.Disk.tells new 0 (image 0) (at_new 0)) in
          part_more disk c.args.pages.now c.loop-i.i none c.loop-i-test.true c.place.result c.with_mark-image.result c.place.ensures (is keeps) (hold d) (hold mid) (hold new) (so_far.crash keeps) c.write.ensures.crash whole image at_new);
      faults = omega (arith, so_far.faults, c.write.ensures.cause.later);
      size = c.write.ensures.size ∙ so_far.size;
      keeps = c.write.ensures.keeps ∙ so_far.keeps;
      traced = c.write.ensures.traced ∙ so_far.traced;
    }
