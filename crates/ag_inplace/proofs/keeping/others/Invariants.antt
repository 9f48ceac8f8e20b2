use Rattle.std.proofs.Common.{◌≡◌, ◌<◌, ℕ, not, eqb, false, List, length, get_or}
use Rattle.ag_model.specs.declared.value.Version.{Version}
use Rattle.ag_page.specs.Image.{image_bytes}
use Rattle.ag_inplace.specs.Listing.{Lists}
use Rattle.ag_inplace.proofs.Listed.{no_version}
use Rattle.ag_inplace.proofs.keeping.others.Given as goal

abbrev pub invariant-loop-k : goal.invariant-loop-k
invariant-loop-k l = record {
  flags : (ws : List Version) → Lists (image_bytes l.i) l.d ws → (j : ℕ) → j < l.k → get_or l.keep j false ≡ not (eqb (get_or ws j no_version).txn l.txn);
  whole : length l.keep ≡ 272;
}
