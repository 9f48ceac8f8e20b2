use Rattle.std.proofs.Common.{◌≡◌, ◌+◌, ◌<◌, ◌≤◌, ℕ, List, length, get_or}
use Rattle.ag_model.specs.declared.record.Record.{Record}
use Rattle.ag_model.specs.Page.{value}
use Rattle.ag_version.specs.Steps.{AreProper, IsAt}
use Rattle.ag_threads_t.proofs.one_page.redo_all.Given as goal

abbrev pub invariant-loop-entry : goal.invariant-loop-entry
invariant-loop-entry g l = record {
  lsn : l.lsn ≡ l.applied + l.entry-index;
  page : l.v.page ≡ l.fn.v.page;
  redone : (log : List Record) → AreProper 16 log → 16 ≤ l.fn.v.page → l.fn.v.page < 32
      → ((i : ℕ) (d : Record) → i < length l.records → IsAt log (l.applied + i + 1) (get_or l.records i d))
      → l.fn.v ≡ value 16 log l.applied l.fn.v.page → l.v ≡ value 16 log l.lsn l.fn.v.page;
}
