use Rattle.std.proofs.Common.{◌≡◌, ◌∷◌, ◌++◌, [], length, take, get_or, ℕ, ◌<◌}
use Rattle.ag_pagestore.proofs.marks.with_mark.Given as goal

abbrev pub invariant-loop-place : goal.invariant-loop-place
invariant-loop-place l = record {
  whole : length l.marked ≡ 16;
  long : (k : ℕ) → k < l.place → length (get_or l.image k []) ≡ 512;
  each : (k : ℕ) → k < l.place → get_or l.marked k [] ≡ take 511 (get_or l.image k []) ++ l.mark ∷ [];
}
