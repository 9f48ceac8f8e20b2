use Rattle.std.proofs.Common.{◌≡◌, ◌+◌, take}
use Rattle.ag_model.specs.Sizes.{versions_size}
use Rattle.ag_page.proofs.fitting.have_room.Given as goal

abbrev pub invariant-loop-version : goal.invariant-loop-version
invariant-loop-version l = l.free + versions_size (take l.version-index l.versions) ≡ 8144
