use Rattle.std.proofs.Common.{◌≡◌, []}
use Rattle.ag_front.specs.Passes.{Loading}
use Rattle.ag_front.proofs.shared.Front.front.Given as goal

abbrev pub invariant-loop-k : goal.invariant-loop-k
invariant-loop-k g l = record {
  table : l.seat.table_id ≡ l.fn.pass.seat.table_id;
  same : l.seat.id ≡ l.fn.pass.seat.id;
  free : l.seat.me.1 ≡ [];
  loading : Loading l.k l.low l.fn.pass.seat.me.0 l.seat.me.0;
}
