use Rattle.std.proofs.Common.{◌≡◌, IsTrue, take}
use Rattle.ag_writes.specs.Performing.{after_batches}
use Rattle.ag_writes.specs.Homes.{goes_on}
use Rattle.ag_writes.proofs.execute.perform.Given as goal

abbrev pub invariant-loop-batch : goal.invariant-loop-batch
invariant-loop-batch g l = record {
  reached : g.H.Keeps.reached l.home ≡ after_batches (g.H.Keeps.reached l.fn.home) (take l.batch-index l.batches);
  goes_on : IsTrue (goes_on (g.H.Keeps.reached l.home));
  pages : g.H.Keeps.pages l.home ≡ g.H.Keeps.pages l.fn.home;
  same : g.H.Keeps.same l.fn.home l.home;
}
