use Rattle.std.proofs.Common.{◌≡◌, ◌<◌, ◌≤◌, ℕ, length, get_or, bit_or}
use Rattle.ag_revert.proofs.planning.any_bits.Given as goal

abbrev pub invariant-loop-i : goal.invariant-loop-i
invariant-loop-i l = record {
  len : length l.bits ≡ 256;
  done : (j : ℕ) → j < l.i → get_or l.bits j 0 ≡ bit_or (get_or l.one j 0) (get_or l.other j 0);
  rest : (j : ℕ) → l.i ≤ j → get_or l.bits j 0 ≡ get_or l.one j 0;
}
