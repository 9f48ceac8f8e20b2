use Rattle.std.proofs.Common.{◌≡◌, ◌≤◌}
use Rattle.ag_pages.specs.Views.{slot}
use Rattle.ag_pages.specs.Flush.{StayKept}
use Rattle.ag_pages.proofs.Rounds.{IsUnderWay}
use Rattle.ag_pages.proofs.pages.Pages.flush_all.Given as goal

-- the batches that are full so far were written
abbrev pub invariant-loop-place : goal.invariant-loop-place
invariant-loop-place g l = let d = g.D.Disk in record {
  way : IsUnderWay l.fn.self d.size d.keeps d.reads d.may_hold d.did l.fn.disk l.place l.disk l.self l.batch;
  count : l.self.count ≡ l.fn.self.count;
  applied : l.self.applied ≡ l.fn.self.applied;
  kept : StayKept (slot l.fn.self) (slot l.self);
  later : d.faults l.fn.disk ≤ d.faults l.disk;
  size : d.size l.disk ≡ d.size l.fn.disk;
  keeps : d.keeps l.disk ≡ d.keeps l.fn.disk;
}
