use Rattle.std.proofs.Common.{◌≡◌, ◌<◌, ◌≤◌, ℕ, true, false, get_or, vec_capacity}
use Rattle.ag_front.specs.Closes.{AllHome, ClosedStripes}
use Rattle.ag_front.proofs.shared.Front.close.Given as goal

abbrev pub invariant-loop-k : goal.invariant-loop-k
invariant-loop-k g l = record {
  wide : l.closed.slots.len ≡ 17;
  filled : (j : ℕ) → l.k ≤ j → j < 17 → get_or l.closed.slots.filled j false ≡ true;
  empty : (j : ℕ) → j < l.k → get_or l.closed.slots.filled j false ≡ false;
  home : AllHome g.T.Stands.standing l.fn.pass.seat.me.0 l.closed.slots.items;
  got : ClosedStripes g.T.Stands.standing l.fn.pass.seat.me.0 l.stripes.items l.k;
  room : 16 ≤ vec_capacity l.stripes;
}
