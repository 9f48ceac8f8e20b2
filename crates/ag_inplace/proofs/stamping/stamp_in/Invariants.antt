use Rattle.std.proofs.Common.{◌≡◌}
use Rattle.ag_model.specs.declared.value.PageValue.{PageValue}
use Rattle.ag_page.specs.Image.{image_bytes, marks}
use Rattle.ag_inplace.specs.Spelled.{Spells}
use Rattle.ag_inplace.proofs.Stamps.{IsStampedTo}
use Rattle.ag_inplace.proofs.stamping.stamp_in.Given as goal

abbrev pub invariant-loop-k : goal.invariant-loop-k
invariant-loop-k l = record {
  stamped : (v : PageValue) → Spells l.fn.i v → IsStampedTo l.lsn l.txn v l.k (image_bytes l.i);
  marks : marks l.i ≡ marks l.fn.i;
}
