use Rattle.std.proofs.Common.{◌≡◌, ◌≤◌, take, IsTrue}
use Rattle.std.specs.List.{AllByRecursion}
use Rattle.ag_outside.specs.Calls.{Leads}
use Rattle.ag_outside.specs.Disks.{put_all, MayAdd}
use Rattle.ag_outside.specs.Moments.{LeavesOnly}
use Rattle.ag_pagestore.specs.Batches.{IsWhole, pieces, written, went}
use Rattle.ag_pagestore.specs.Moments.{IsPartOf}
use Rattle.ag_pagestore.proofs.batch.write_pages.Given as goal

-- the pages before this one are written
abbrev pub invariant-loop-i : goal.invariant-loop-i
invariant-loop-i g l = record {
  whole : AllByRecursion IsWhole (take l.i l.pages);
  landed : IsTrue (g.D.Disk.keeps l.fn.disk) → g.D.Disk.reads l.disk ≡ put_all (g.D.Disk.reads l.fn.disk) (written (g.D.Disk.reads l.fn.disk) (take l.i l.pages));
  calls : IsTrue (g.D.Disk.keeps l.fn.disk) → Leads g.D.Disk.did l.fn.disk (went (pieces (g.D.Disk.reads l.fn.disk) (take l.i l.pages))) l.disk;
  crash : IsTrue (g.D.Disk.keeps l.fn.disk) → MayAdd (written (g.D.Disk.reads l.fn.disk) (take l.i l.pages)) (g.D.Disk.may_hold l.fn.disk) (g.D.Disk.may_hold l.disk);
  any_moment : LeavesOnly g.D.Disk.moment g.D.Disk.left_since l.fn.disk l.disk (IsPartOf (g.D.Disk.may_hold l.fn.disk) (g.D.Disk.reads l.fn.disk) l.pages);
  faults : g.D.Disk.faults l.fn.disk ≤ g.D.Disk.faults l.disk;
  size : g.D.Disk.size l.disk ≡ g.D.Disk.size l.fn.disk;
  keeps : g.D.Disk.keeps l.disk ≡ g.D.Disk.keeps l.fn.disk;
  traced : g.D.Disk.traced l.disk ≡ g.D.Disk.traced l.fn.disk;
}
