use Rattle.std.proofs.Common.{◌≡◌, ◌≤◌, ℕ, IsTrue, drop}
use Rattle.ag_outside.specs.Disks.{Content, put_all, WroteSo, MayAdd}
use Rattle.ag_outside.specs.Scripts.{InRange}
use Rattle.ag_outside.proofs.handing.hand_down.Given as goal

abbrev pub invariant-writes : goal.invariant-writes
invariant-writes g l = record {
  in_range : InRange (g.D.Disk.size l.fn.disk) (drop l.write-index l.writes);
  written : IsTrue (g.D.Disk.keeps l.fn.disk) → put_all (g.D.Disk.reads l.disk) (drop l.write-index l.writes) ≡ put_all (g.D.Disk.reads l.fn.disk) l.writes;
  among : (at : ℕ) (content : Content) → WroteSo (drop l.write-index l.writes) at content → WroteSo l.writes at content;
  crash : MayAdd l.writes (g.D.Disk.may_hold l.fn.disk) (g.D.Disk.may_hold l.disk);
  later : g.D.Disk.faults l.fn.disk ≤ g.D.Disk.faults l.disk;
  size : g.D.Disk.size l.disk ≡ g.D.Disk.size l.fn.disk;
  keeps : g.D.Disk.keeps l.disk ≡ g.D.Disk.keeps l.fn.disk;
}
