use Rattle.std.proofs.Common.{◌≡◌, ◌*◌, ◌≤◌, take}
use Rattle.ag_model.specs.Rows.{page_of}
use Rattle.ag_rules.specs.SetEvent.{taken_on}
use Rattle.ag_txn.proofs.room.taken_on.Given as goal

abbrev pub invariant-loop-pair : goal.invariant-loop-pair
invariant-loop-pair l = record {
  so_far : l.taken ≡ taken_on l.pages (page_of l.pages l.key) (take l.pair-index l.earlier);
  bound : l.taken ≤ 285 * l.pair-index;
}
