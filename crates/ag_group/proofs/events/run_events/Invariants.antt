use Rattle.std.proofs.Common.{◌≤◌}
use Rattle.ag_group.proofs.Runs.{SoFar}
use Rattle.ag_group.proofs.events.run_events.Given as goal

abbrev pub invariant-events : goal.invariant-events
invariant-events g l = record {
  so_far : SoFar l.c l.events l.event-index l.group.group (g.K.Sink.taken l.fn.sink) (g.K.Sink.taken l.sink);
  faults : g.K.Sink.faults l.fn.sink ≤ g.K.Sink.faults l.sink;
}
