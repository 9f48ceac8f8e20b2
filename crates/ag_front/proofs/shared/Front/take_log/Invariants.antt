use Rattle.std.proofs.Common.{◌≡◌}
use Rattle.ag_front.specs.Slots.{Trying}
use Rattle.ag_front.proofs.shared.Front.take_log.Given as goal

abbrev pub invariant-loop : goal.invariant-loop
invariant-loop g l = record {
  table : l.seat.table_id ≡ l.fn.seat.table_id;
  same : l.seat.id ≡ l.fn.seat.id;
  trying : Trying l.turn l.fn.seat.me l.seat.me;
}
