use Rattle.std.proofs.Common.{◌≡◌, ◌<◌, ◌≤◌, ℕ, length, get_or, IsTrue}
use Rattle.ag_model.specs.Cells.{mark_after}
use Rattle.ag_outside.specs.Calls.{IsReadOnly}
use Rattle.ag_outside.specs.Disks.{SameImages, Elapses}
use Rattle.ag_pagestore.specs.declared.batch.PageWrite.{PageWrite}
use Rattle.ag_pagestore.specs.Places.{page_cells}
use Rattle.ag_pagestore.proofs.batch.next_marks.Given as goal

-- the marks of the pages before this one are known, and nothing changed
abbrev pub invariant-loop-i : goal.invariant-loop-i
invariant-loop-i g l = record {
  whole : length l.marks ≡ 8;
  next : IsTrue (g.D.Disk.keeps l.fn.disk) → (k : ℕ) (d : PageWrite) → k < l.i → get_or l.marks k 0 ≡ mark_after (page_cells (g.D.Disk.reads l.fn.disk) (get_or l.pages k d).page);
  calls : IsReadOnly g.D.Disk.did l.fn.disk l.disk;
  reads : g.D.Disk.reads l.disk ≡ g.D.Disk.reads l.fn.disk;
  crash : SameImages (g.D.Disk.may_hold l.fn.disk) (g.D.Disk.may_hold l.disk);
  time : Elapses (g.D.Disk.traced l.fn.disk) (g.D.Disk.moment l.fn.disk) (g.D.Disk.moment l.disk) (g.D.Disk.left_since l.fn.disk) (g.D.Disk.left_since l.disk) (g.D.Disk.may_hold l.disk);
  faults : g.D.Disk.faults l.fn.disk ≤ g.D.Disk.faults l.disk;
  size : g.D.Disk.size l.disk ≡ g.D.Disk.size l.fn.disk;
  keeps : g.D.Disk.keeps l.disk ≡ g.D.Disk.keeps l.fn.disk;
  traced : g.D.Disk.traced l.disk ≡ g.D.Disk.traced l.fn.disk;
}
