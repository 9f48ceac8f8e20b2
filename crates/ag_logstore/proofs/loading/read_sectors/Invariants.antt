use Rattle.std.proofs.Common.{◌≡◌, ◌+◌, ◌++◌, length, IsTrue}
use Rattle.ag_logstore.specs.Stored.{sectors_at}
use Rattle.ag_logstore.specs.ReadOnly.{OnlyReads}
use Rattle.ag_logstore.proofs.loading.read_sectors.Given as goal

abbrev pub invariant-loop-k : goal.invariant-loop-k
invariant-loop-k g l = record {
  stays : OnlyReads g.D.Disk.size g.D.Disk.keeps g.D.Disk.reads g.D.Disk.may_hold g.D.Disk.moment g.D.Disk.left_since g.D.Disk.faults g.D.Disk.did l.fn.disk l.disk;
  sectors : IsTrue (g.D.Disk.keeps l.fn.disk) → l.sectors.items ≡ l.fn.sectors.items ++ sectors_at (g.D.Disk.reads l.fn.disk) l.first l.k;
  long : length l.sectors.items ≡ length l.fn.sectors.items + l.k;
}
