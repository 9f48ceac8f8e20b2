use Rattle.std.proofs.Common.{◌≡◌, take}
use Rattle.ag_txn.specs.Fresh.{fresh_copies}
use Rattle.ag_txn.proofs.copies.fresh_copies.Given as goal

abbrev pub invariant-loop-page : goal.invariant-loop-page
invariant-loop-page l = l.fresh.items ≡ fresh_copies l.pages l.first l.records l.copies (take l.page-index l.listed)
