use Rattle.std.proofs.Common.{◌≡◌, List, length, map, take}
use Rattle.ag_model.specs.declared.value.Version.{Version}
use Rattle.ag_page.specs.Image.{image_bytes}
use Rattle.ag_inplace.specs.Listing.{Lists}
use Rattle.ag_inplace.specs.Heads.{head_of}
use Rattle.ag_inplace.proofs.trimming.heads_in.Given as goal

abbrev pub invariant-loop-k : goal.invariant-loop-k
invariant-loop-k l = record {
  heads : (ws : List Version) → Lists (image_bytes l.i) l.d ws → take l.k l.heads ≡ map head_of (take l.k ws);
  whole : length l.heads ≡ 272;
}
