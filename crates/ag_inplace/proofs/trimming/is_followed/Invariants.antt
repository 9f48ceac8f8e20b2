use Rattle.std.proofs.Common.{◌≡◌, false, List, map, take}
use Rattle.std.specs.List.{list_any}
use Rattle.ag_model.specs.declared.value.Version.{Version}
use Rattle.ag_version.specs.Trimming.{follows}
use Rattle.ag_inplace.specs.Heads.{head_of}
use Rattle.ag_inplace.proofs.trimming.is_followed.Given as goal

abbrev pub invariant-loop-w : goal.invariant-loop-w
invariant-loop-w l = (x : Version) (ys : List Version) → l.v ≡ head_of x → l.heads ≡ map head_of ys → list_any (follows l.horizon x) (take l.w-index ys) ≡ false
