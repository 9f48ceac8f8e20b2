use Rattle.std.proofs.Common.{◌≡◌, take, map}
use Rattle.ag_model.specs.declared.event.Pair.{Pair}
use Rattle.ag_model.specs.declared.record.Record.TheVariants.{Put}
use Rattle.ag_txn.proofs.listed.records_of_set.Given as goal

abbrev pub invariant-loop-pair : goal.invariant-loop-pair
invariant-loop-pair l = l.records ≡ map (λ (pair : Pair). Put l.txn pair.key pair.value) (take l.pair-index l.pairs)
