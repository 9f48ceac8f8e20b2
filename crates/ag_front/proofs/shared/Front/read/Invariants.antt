use Rattle.std.proofs.Common.{◌≡◌}
use Rattle.ag_front.specs.Passes.{Waiting}
use Rattle.ag_front.proofs.shared.Front.read.Given as goal

abbrev pub invariant-loop : goal.invariant-loop
invariant-loop g l = record {
  table : l.pass.seat.table_id ≡ l.fn.pass.seat.table_id;
  same : l.pass.seat.id ≡ l.fn.pass.seat.id;
  waiting : Waiting l.at l.fn.pass.seat.me.0 l.pass.seat.me.0;
}
