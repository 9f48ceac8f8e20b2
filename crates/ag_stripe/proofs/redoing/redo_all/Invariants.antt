use Rattle.std.proofs.Common.{◌≡◌, ◌+◌, ◌||◌, ℕ, true, take}
use Rattle.ag_model.specs.declared.record.Log.{Log}
use Rattle.ag_stripe.specs.Ahead.{IsAhead, AreNext}
use Rattle.ag_stripe.specs.Known.{Told, known}
use Rattle.ag_stripe.specs.Redo.{IsKept, OnlyEdits, AreKept, is_touched}
use Rattle.ag_stripe.specs.Tables.{IsSameTable, is_own, is_dirty}
use Rattle.ag_stripe.proofs.redoing.redo_all.Given as goal

abbrev pub invariant-loop-entry : goal.invariant-loop-entry
invariant-loop-entry l = record {
  lsn : l.lsn ≡ l.applied + l.entry-index;
  same : IsSameTable l.fn.table l.table;
  kept : (q : ℕ) → IsKept l.fn.table q → IsKept l.table q;
  edits : OnlyEdits l.fn.table l.table (is_touched l.fn.table l.records);
  dirty : (q : ℕ) → is_dirty l.table q ≡ (is_dirty l.fn.table q || is_touched l.fn.table (take l.entry-index l.records) q);
  values : (told : Told) (log : Log) (page : ℕ) → AreNext l.fn.table.pages l.applied log l.records → AreKept l.fn.table l.records → is_own l.fn.table page ≡ true
      → IsAhead l.fn.table.pages log l.applied page (known told l.fn.table page) → IsAhead l.fn.table.pages log l.lsn page (known told l.table page);
}
