use Rattle.std.proofs.Common.{◌≡◌, ◌≤◌}
use Rattle.ag_outside.specs.Shown.{reads_of}
use Rattle.ag_store.specs.Redoing.{AreRedoneBelow, ShowsSame}
use Rattle.ag_store.proofs.redoing.redo_to_end.Given as goal

-- the stripes before this one were redone, and the disk was only read
abbrev pub invariant-loop-stripe : goal.invariant-loop-stripe
invariant-loop-stripe g l = record {
  below : AreRedoneBelow (reads_of g.D.Disk.reads l.fn.disk) l.log l.stripe l.fn.pages l.pages;
  shows : ShowsSame g.D.Disk.keeps g.D.Disk.reads g.D.Disk.may_hold l.fn.disk l.disk;
  later : g.D.Disk.faults l.fn.disk.disk ≤ g.D.Disk.faults l.disk.disk;
  size : g.D.Disk.size l.disk.disk ≡ g.D.Disk.size l.fn.disk.disk;
}
