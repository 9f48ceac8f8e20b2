use Rattle.std.proofs.Common.{◌≡◌, ◌+◌, ◌<◌, ◌≤◌, ℕ, [], length, get_or, IsTrue}
use Rattle.ag_model.specs.declared.answer.Cell.TheVariants.{Lost}
use Rattle.ag_outside.specs.Calls.{IsReadOnly}
use Rattle.ag_outside.specs.Disks.{SameImages, Elapses}
use Rattle.ag_pagestore.specs.Found.{IsSector}
use Rattle.ag_pagestore.proofs.sectors.read_sectors.Given as goal

-- the sectors before this one were read, and nothing changed
abbrev pub invariant-loop-i : goal.invariant-loop-i
invariant-loop-i g l = record {
  cells_whole : length l.cells ≡ 16;
  image_whole : length l.into ≡ 16;
  found : IsTrue (g.D.Disk.keeps l.fn.disk) → (k : ℕ) → k < l.i → IsSector (g.D.Disk.reads l.fn.disk (l.first + k)) (get_or l.cells k Lost) (get_or l.into k []);
  calls : IsReadOnly g.D.Disk.did l.fn.disk l.disk;
  reads : g.D.Disk.reads l.disk ≡ g.D.Disk.reads l.fn.disk;
  crash : SameImages (g.D.Disk.may_hold l.fn.disk) (g.D.Disk.may_hold l.disk);
  time : Elapses (g.D.Disk.traced l.fn.disk) (g.D.Disk.moment l.fn.disk) (g.D.Disk.moment l.disk) (g.D.Disk.left_since l.fn.disk) (g.D.Disk.left_since l.disk) (g.D.Disk.may_hold l.disk);
  faults : g.D.Disk.faults l.fn.disk ≤ g.D.Disk.faults l.disk;
  size : g.D.Disk.size l.disk ≡ g.D.Disk.size l.fn.disk;
  keeps : g.D.Disk.keeps l.disk ≡ g.D.Disk.keeps l.fn.disk;
  traced : g.D.Disk.traced l.disk ≡ g.D.Disk.traced l.fn.disk;
}
