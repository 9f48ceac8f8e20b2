use Rattle.std.proofs.Common.{◌≡◌, ◌<◌, ℕ, [], length, get_or, slice_index}
use Rattle.ag_page.proofs.image.marks.Given as goal

abbrev pub invariant-loop-place : goal.invariant-loop-place
invariant-loop-place l = record {
  whole : length l.marks ≡ 16;
  each : (k : ℕ) → k < l.place → get_or l.marks k 0 ≡ slice_index (get_or l.i k []) 511;
}
