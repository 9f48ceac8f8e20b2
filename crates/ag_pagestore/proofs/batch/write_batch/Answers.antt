use Rattle.ag_pagestore.specs.Moments.{IsPartOf, IsOldOrNew}
use Rattle.ag_pagestore.proofs.Moving.{leaves_weaker, part_pages}
use Rattle.ag_pagestore.proofs.Pages.{is_written}
use Rattle.ag_pagestore.proofs.batch.write_batch.Goals as goal

pub returns-in_err-write_and_sync-clause-any_moment : goal.returns-in_err-write_and_sync-clause-any_moment
returns-in_err-write_and_sync-clause-any_moment g c = λ only.
    let d = c.args.disk.now in
    let disk = g.D.Disk.reads d in
    let hold = g.D.Disk.may_hold d in
    leaves_weaker g.D.Disk.moment g.D.Disk.left_since d c.write_and_sync.new.disk (IsPartOf hold disk c.args.pages.now) (IsOldOrNew disk c.args.pages.now) (part_pages hold disk c.args.pages.now c.requires.batch.rises only) c.write_and_sync.ensures.any_moment

pub returns-clause-written : goal.returns-clause-written
returns-clause-written g c = λ keeps.
    is_written (g.D.Disk.reads c.args.disk.now) (g.D.Disk.reads c.write_and_sync.new.disk) c.args.pages.now c.requires.batch.rises c.in_ok-write_and_sync.ensures.whole (c.in_ok-write_and_sync.ensures.written keeps)

pub returns-clause-any_moment : goal.returns-clause-any_moment
returns-clause-any_moment g c = λ only.
    let d = c.args.disk.now in
    let disk = g.D.Disk.reads d in
    let hold = g.D.Disk.may_hold d in
    leaves_weaker g.D.Disk.moment g.D.Disk.left_since d c.write_and_sync.new.disk (IsPartOf hold disk c.args.pages.now) (IsOldOrNew disk c.args.pages.now) (part_pages hold disk c.args.pages.now c.requires.batch.rises only) c.write_and_sync.ensures.any_moment
