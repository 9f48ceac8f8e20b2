use Rattle.std.proofs.Common.{IsTrue, ap, sym, ◌∙◌, subst, Err, Result}
use Rattle.std.proofs.lemmas.Result.{err_from_is_err_and}
use Rattle.ag_outside.specs.declared.disk.DiskError.{DiskError}
use Rattle.ag_outside.specs.Calls.{Sync_call, Leads}
use Rattle.ag_outside.specs.Disks.{Image}
use Rattle.ag_outside.proofs.Running.{goes_on}
use Rattle.ag_pagestore.specs.Batches.{pieces, went, WritesUntilFault}
use Rattle.ag_pagestore.specs.Moments.{IsPartOf}
use Rattle.ag_pagestore.proofs.Faults.{failed_is}
use Rattle.ag_pagestore.proofs.Leading.{takes_all, fails_at_sync, fails_at_write}
use Rattle.ag_pagestore.proofs.Moving.{leaves_weaker, leaves_both, leaves_reads, part_over, part_synced}
use Rattle.ag_pagestore.proofs.batch.write_and_sync.Goals as goal

pub returns-in_err-write_pages-clause-broken : goal.returns-in_err-write_pages-clause-broken
returns-in_err-write_pages-clause-broken g c = λ failed keeps.
    let d = c.args.disk.now in
    let mid = c.next_marks.new.disk in
    let read = c.in_ok-marks.ensures in
    let e = failed_is c.from_residual-in_err-write_pages.result c.in_err-write_pages.field-0.0 (err_from_is_err_and c.from_residual-in_err-write_pages.result c.from_residual-in_err-write_pages.ensures.1) failed in
    fails_at_write g.D.Disk.did d mid read.calls c.write_pages.new.disk (pieces (g.D.Disk.reads d) c.args.pages.now)
    (subst (λ (im : Image). WritesUntilFault g.D.Disk.did mid (pieces im c.args.pages.now) c.write_pages.new.disk) c.next_marks.ensures.reads
    (c.write_pages.ensures.broken (c.in_err-write_pages.was ∙ ap (λ (x : DiskError). Err x) e) (subst IsTrue (sym c.next_marks.ensures.keeps) keeps)))

pub returns-in_err-write_pages-clause-any_moment : goal.returns-in_err-write_pages-clause-any_moment
returns-in_err-write_pages-clause-any_moment g c =
    let d = c.args.disk.now in
    let mid = c.next_marks.new.disk in
    let hold = g.D.Disk.may_hold in
    let batch = c.args.pages.now in
    let read = leaves_reads g.D.Disk.moment g.D.Disk.left_since d mid _ (hold d) (hold mid) (g.D.Disk.reads d) batch (g.met.D.Disk.only_now d) c.next_marks.ensures.time c.next_marks.ensures.crash in
    leaves_both g.D.Disk.moment g.D.Disk.left_since d mid c.write_pages.new.disk (IsPartOf (hold d) (g.D.Disk.reads d) batch) read
    (leaves_weaker g.D.Disk.moment g.D.Disk.left_since mid c.write_pages.new.disk (IsPartOf (hold mid) (g.D.Disk.reads mid) batch) (IsPartOf (hold d) (g.D.Disk.reads d) batch) (part_over (hold d) (hold mid) (g.D.Disk.reads d) (g.D.Disk.reads mid) batch c.next_marks.ensures.crash c.next_marks.ensures.reads) c.write_pages.ensures.any_moment)

pub returns-in_err-sync-clause-broken : goal.returns-in_err-sync-clause-broken
returns-in_err-sync-clause-broken g c = λ failed keeps.
    let d = c.args.disk.now in
    let mid = c.next_marks.new.disk in
    let later = c.write_pages.new.disk in
    let e = failed_is c.from_residual-in_err-sync.result c.in_err-sync.field-0.0 (err_from_is_err_and c.from_residual-in_err-sync.result c.from_residual-in_err-sync.ensures.1) failed in
    fails_at_sync g.D.Disk.did d mid c.in_ok-marks.ensures.calls later c.sync.new.self (pieces (g.D.Disk.reads d) c.args.pages.now)
    (subst (λ (im : Image). Leads g.D.Disk.did mid (went (pieces im c.args.pages.now)) later) c.next_marks.ensures.reads (c.in_ok-write_pages.ensures.calls (subst IsTrue (sym c.next_marks.ensures.keeps) keeps)))
    (subst (λ (r : Result (Unit {0}) DiskError). g.D.Disk.did later (Sync_call r) c.sync.new.self) (c.in_err-sync.was ∙ ap (λ (x : DiskError). Err x) e) c.sync.ensures.did)

pub returns-clause-calls : goal.returns-clause-calls
returns-clause-calls g c = λ keeps.
    let d = c.args.disk.now in
    let mid = c.next_marks.new.disk in
    let later = c.write_pages.new.disk in
    takes_all g.D.Disk.did d mid c.in_ok-marks.ensures.calls later c.sync.new.self (pieces (g.D.Disk.reads d) c.args.pages.now)
    (subst (λ (im : Image). Leads g.D.Disk.did mid (went (pieces im c.args.pages.now)) later) c.next_marks.ensures.reads (c.in_ok-write_pages.ensures.calls (subst IsTrue (sym c.next_marks.ensures.keeps) keeps)))
    (subst (λ (r : Result (Unit {0}) DiskError). g.D.Disk.did later (Sync_call r) c.sync.new.self) c.in_ok-sync.was c.sync.ensures.did)

pub returns-in_err-sync-clause-any_moment : goal.returns-in_err-sync-clause-any_moment
returns-in_err-sync-clause-any_moment g c =
    let d = c.args.disk.now in
    let mid = c.next_marks.new.disk in
    let later = c.write_pages.new.disk in
    let new = c.sync.new.self in
    let hold = g.D.Disk.may_hold in
    let batch = c.args.pages.now in
    let read = leaves_reads g.D.Disk.moment g.D.Disk.left_since d mid _ (hold d) (hold mid) (g.D.Disk.reads d) batch (g.met.D.Disk.only_now d) c.next_marks.ensures.time c.next_marks.ensures.crash in
    let over = part_over (hold d) (hold mid) (g.D.Disk.reads d) (g.D.Disk.reads mid) batch c.next_marks.ensures.crash c.next_marks.ensures.reads in
    let wrote = leaves_both g.D.Disk.moment g.D.Disk.left_since d mid later (IsPartOf (hold d) (g.D.Disk.reads d) batch) read
    (leaves_weaker g.D.Disk.moment g.D.Disk.left_since mid later (IsPartOf (hold mid) (g.D.Disk.reads mid) batch) (IsPartOf (hold d) (g.D.Disk.reads d) batch) over c.write_pages.ensures.any_moment) in
    goes_on g.D.Disk.moment g.D.Disk.left_since d later new (IsPartOf (hold d) (g.D.Disk.reads d) batch) _ _ wrote c.sync.ensures.time
    (λ image at_new.
    let keeps = subst IsTrue (c.sync.ensures.keeps ∙ c.write_pages.ensures.keeps) (g.met.D.Disk.tells new 0 (image 0) (at_new 0)) in
    over image (part_synced (hold mid) (hold later) (hold new) (g.D.Disk.reads mid) batch (c.in_ok-write_pages.ensures.crash keeps) c.sync.ensures.crash c.in_ok-write_pages.ensures.whole image at_new))

pub returns-clause-any_moment : goal.returns-clause-any_moment
returns-clause-any_moment g c =
    let d = c.args.disk.now in
    let mid = c.next_marks.new.disk in
    let later = c.write_pages.new.disk in
    let new = c.sync.new.self in
    let hold = g.D.Disk.may_hold in
    let batch = c.args.pages.now in
    let read = leaves_reads g.D.Disk.moment g.D.Disk.left_since d mid _ (hold d) (hold mid) (g.D.Disk.reads d) batch (g.met.D.Disk.only_now d) c.next_marks.ensures.time c.next_marks.ensures.crash in
    let over = part_over (hold d) (hold mid) (g.D.Disk.reads d) (g.D.Disk.reads mid) batch c.next_marks.ensures.crash c.next_marks.ensures.reads in
    let wrote = leaves_both g.D.Disk.moment g.D.Disk.left_since d mid later (IsPartOf (hold d) (g.D.Disk.reads d) batch) read
    (leaves_weaker g.D.Disk.moment g.D.Disk.left_since mid later (IsPartOf (hold mid) (g.D.Disk.reads mid) batch) (IsPartOf (hold d) (g.D.Disk.reads d) batch) over c.write_pages.ensures.any_moment) in
    goes_on g.D.Disk.moment g.D.Disk.left_since d later new (IsPartOf (hold d) (g.D.Disk.reads d) batch) _ _ wrote c.sync.ensures.time
    (λ image at_new.
    let keeps = subst IsTrue (c.sync.ensures.keeps ∙ c.write_pages.ensures.keeps) (g.met.D.Disk.tells new 0 (image 0) (at_new 0)) in
    over image (part_synced (hold mid) (hold later) (hold new) (g.D.Disk.reads mid) batch (c.in_ok-write_pages.ensures.crash keeps) c.sync.ensures.crash c.in_ok-write_pages.ensures.whole image at_new))
