-- That copies are the pages of a log with its buffer.
use Rattle.std.specs.Prelude.{◌≡◌, ℕ, ◌+◌, ◌<◌, ◌≤◌, List, ◌++◌, length, false, Some, None}
use Rattle.std.specs.List.{list_any}
use Rattle.ag_model.specs.declared.record.Record.{Record}
use Rattle.ag_model.specs.declared.value.PageValue.{PageValue}
use Rattle.ag_model.specs.Page.{value}
use Rattle.ag_model.specs.Rows.{touches}
use Rattle.ag_txn.specs.View.{Copies, copy_of}

-- each copy is the page of the log with its buffer, and a page with no copy isn't touched by the buffer
pub record AreEffective (pages : ℕ) (log buffer : List Record) (copies : Copies) : Type 0 where
  pub slots : length copies ≡ pages
  pub values : (page : ℕ) (v : PageValue) → 16 ≤ page → page < 16 + pages → copy_of copies page ≡ Some v → v ≡ value pages (log ++ buffer) (length (log ++ buffer)) page
  pub touched : (page : ℕ) → 16 ≤ page → page < 16 + pages → copy_of copies page ≡ None → list_any (touches pages page) buffer ≡ false

-- a page with no copy isn't touched by these records
abbrev pub HaveCopiesFor : ℕ → Copies → List Record → Type 0
HaveCopiesFor pages copies new = (page : ℕ) → 16 ≤ page → page < 16 + pages → copy_of copies page ≡ None → list_any (touches pages page) new ≡ false
