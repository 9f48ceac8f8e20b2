use Rattle.std.proofs.Common.{◌≡◌, ◌≤◌, Bool, length}
use Rattle.ag_model.specs.declared.value.Version.{Version}
use Rattle.ag_model.specs.declared.value.PageValue.{PageValue}
use Rattle.ag_page.specs.Image.{image_bytes, marks}
use Rattle.ag_inplace.specs.Spelled.{Spells}
use Rattle.ag_inplace.specs.Entries.{place_of}
use Rattle.ag_inplace.specs.Flags.{Flags}
use Rattle.ag_inplace.proofs.Compacting.{Compacts}
use Rattle.ag_inplace.proofs.keeping.keep_in.Given as goal

abbrev pub invariant-loop-k : goal.invariant-loop-k
invariant-loop-k l = record {
  compacts : (v : PageValue) (test : Version → Bool) → Spells l.fn.i v → Flags test l.keep v.versions → Compacts test v l.k l.to l.count (image_bytes l.i);
  behind : (v : PageValue) → Spells l.fn.i v → l.to ≤ place_of v.versions l.k;
  whole : length (image_bytes l.i) ≡ 8176;
  few : l.count ≤ l.k;
  marks : marks l.i ≡ marks l.fn.i;
}
