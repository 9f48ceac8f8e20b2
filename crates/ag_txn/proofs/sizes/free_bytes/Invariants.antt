use Rattle.std.proofs.Common.{◌≡◌, ◌-◌, take}
use Rattle.ag_model.specs.Sizes.{versions_size}
use Rattle.ag_txn.proofs.sizes.free_bytes.Given as goal

abbrev pub invariant-loop-version : goal.invariant-loop-version
invariant-loop-version l = l.free ≡ 8144 - versions_size (take l.version-index l.version-items)
