use Rattle.std.proofs.Common.{◌≡◌, take}
use Rattle.ag_rules.specs.SetEvent.{pages_of_pairs}
use Rattle.ag_txn.proofs.listed.pages_of_pairs.Given as goal

abbrev pub invariant-loop-pair : goal.invariant-loop-pair
invariant-loop-pair l = l.listed.items ≡ pages_of_pairs l.pages (take l.pair-index l.pairs)
