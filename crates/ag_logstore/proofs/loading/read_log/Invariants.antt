use Rattle.std.proofs.Common.{◌-◌, ◌≤◌, IsTrue}
use Rattle.ag_logstore.specs.Stored.{log_end}
use Rattle.ag_logstore.specs.ReadOnly.{OnlyReads}
use Rattle.ag_logstore.proofs.Found.{IsPartly}
use Rattle.ag_logstore.proofs.loading.read_log.Given as goal

abbrev pub invariant-reading : goal.invariant-reading
invariant-reading g l = record {
  stays : OnlyReads g.D.Disk.size g.D.Disk.keeps g.D.Disk.reads g.D.Disk.may_hold g.D.Disk.moment g.D.Disk.left_since g.D.Disk.faults g.D.Disk.did l.fn.disk l.disk;
  partly : IsTrue (g.D.Disk.keeps l.fn.disk) → IsPartly (g.D.Disk.reads l.fn.disk) l.cut l.incarnation l.log l.at l.least;
  within : l.at ≤ log_end;
}

abbrev pub decreases-reading : goal.decreases-reading
decreases-reading g l = log_end - l.at
