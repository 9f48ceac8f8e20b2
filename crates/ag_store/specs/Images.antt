-- What the image of a page says of a log.
use Rattle.std.specs.Prelude.{◌≡◌, ℕ, ◌≤◌, List, Bool, false}
use Rattle.std.specs.List.{list_any}
use Rattle.ag_model.specs.declared.record.Log.{Log}
use Rattle.ag_model.specs.declared.record.Record.{Record}
use Rattle.ag_model.specs.Blocks.{after_to}
use Rattle.ag_model.specs.Page.{value}
use Rattle.ag_model.specs.Prefixes.{end_of}
use Rattle.ag_model.specs.Rows.{touches}
use Rattle.ag_stripe.specs.Known.{Known}
use Rattle.ag_stripe.specs.Known.Known.{Value}

-- whether a record after the one LSN and up to the other touches a page
abbrev pub is_touched_between : ℕ → List Record → ℕ → ℕ → ℕ → Bool
is_touched_between pages log page low high = list_any (touches pages page) (after_to low high log)

-- The image of a page is its value at an LSN of the log, above which no record up to the redo start touches the page. Where
-- memory has the page clean, none does up to where its stripe stands.
pub record IsImageOf (pages : ℕ) (log : Log) (redo applied : ℕ) (dirty : Bool) (page : ℕ) (image : Known) : Type 0 where
  pub lsn : ℕ
  pub high : lsn ≤ end_of log
  pub value : image ≡ Value (value pages log.records lsn page)
  pub redone : is_touched_between pages log.records page lsn redo ≡ false
  pub clean : dirty ≡ false → is_touched_between pages log.records page lsn applied ≡ false
