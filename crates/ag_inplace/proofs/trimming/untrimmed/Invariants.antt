use Rattle.std.proofs.Common.{◌≡◌, ◌<◌, ℕ, not, false, List, length, get_or, map}
use Rattle.ag_model.specs.declared.value.Version.{Version}
use Rattle.ag_model.specs.Page.{is_trimmed_at}
use Rattle.ag_inplace.specs.Heads.{head_of}
use Rattle.ag_inplace.proofs.Listed.{no_version}
use Rattle.ag_inplace.proofs.trimming.untrimmed.Given as goal

abbrev pub invariant-loop-k : goal.invariant-loop-k
invariant-loop-k l = record {
  flags : (ws : List Version) → l.heads ≡ map head_of ws → (j : ℕ) → j < l.k → get_or l.keep j false ≡ not (is_trimmed_at ws (get_or ws j no_version) l.horizon);
  whole : length l.keep ≡ 272;
}
