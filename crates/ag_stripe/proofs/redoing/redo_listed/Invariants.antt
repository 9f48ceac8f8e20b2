use Rattle.std.proofs.Common.{◌≡◌, ◌&&◌, ℕ, cond, take}
use Rattle.ag_model.specs.Rows.{contains, touches}
use Rattle.ag_stripe.specs.Redo.{OnlyEdits, redone_slot}
use Rattle.ag_stripe.specs.Tables.{IsSameTable, is_own, slot_of}
use Rattle.ag_stripe.proofs.redoing.redo_listed.Given as goal

abbrev pub invariant-loop-page : goal.invariant-loop-page
invariant-loop-page l = record {
  same : IsSameTable l.fn.table l.table;
  redone : (q : ℕ) → slot_of l.table q ≡ cond (is_own l.fn.table q && contains q (take l.page-index l.pages)) (redone_slot l.lsn l.entry (slot_of l.fn.table q)) (slot_of l.fn.table q);
  edits : OnlyEdits l.fn.table l.table (λ q. is_own l.fn.table q && touches l.fn.table.pages q l.entry);
}
