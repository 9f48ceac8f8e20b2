use Rattle.std.proofs.Common.{◌≡◌, ◌+◌, drop}
use Rattle.ag_txn.specs.View.{page_after_all}
use Rattle.ag_txn.proofs.pages.edited.Given as goal

abbrev pub invariant-loop-entry : goal.invariant-loop-entry
invariant-loop-entry l = record {
  at : l.lsn ≡ l.first + l.entry-index;
  rest : page_after_all l.pages l.lsn (drop l.entry-index l.records) l.page l.copy ≡ page_after_all l.pages l.first l.records l.page l.initial.copy;
}
