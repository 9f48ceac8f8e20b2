use Rattle.std.proofs.Common.{◌-◌, ◌≡◌, ◌≤◌, length, replicate}
use Rattle.ag_page.specs.Image.{image_bytes, marks}
use Rattle.ag_inplace.proofs.Splices.{spliced}
use Rattle.ag_inplace.proofs.moving.clear.Given as goal

abbrev pub invariant-loop-at : goal.invariant-loop-at
invariant-loop-at l = record {
  bytes : image_bytes l.i ≡ spliced l.from (replicate (l.at - l.from) 0) (image_bytes l.fn.i);
  whole : length (image_bytes l.i) ≡ 8176;
  marks : marks l.i ≡ marks l.fn.i;
  above : l.from ≤ l.at;
  below : l.at ≤ l.to;
}

abbrev pub decreases-loop-at : goal.decreases-loop-at
decreases-loop-at l = l.to - l.at
