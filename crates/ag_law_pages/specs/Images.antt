-- What the image of a page, and what memory has of it, say of a log.
use Rattle.std.specs.Prelude.{◌≡◌, ℕ, ◌+◌, ◌≤◌, ◌<◌, List, length, Some, None, false}
use Rattle.std.specs.List.{list_any}
use Rattle.ag_model.specs.declared.record.Record.{Record}
use Rattle.ag_model.specs.declared.value.PageValue.{PageValue}
use Rattle.ag_model.specs.Blocks.{after_to}
use Rattle.ag_model.specs.Page.{value}
use Rattle.ag_model.specs.Rows.{touches}
use Rattle.ag_stripe.specs.Known.{Known}
use Rattle.ag_stripe.specs.Known.Known.{Value}
use Rattle.ag_pool.specs.declared.frame.Frame.{Frame}

-- a page of a database with so many data pages
abbrev pub IsDataPage : ℕ → ℕ → Type 0
IsDataPage pages page = (16 ≤ page) × (page < 16 + pages)

-- what is known of a page is its value at an LSN that isn't below the first nor above the second
pub record IsValueIn (pages : ℕ) (log : List Record) (low high page : ℕ) (k : Known) : Type 0 where
  pub lsn : ℕ
  pub from : low ≤ lsn
  pub to : lsn ≤ high
  pub value : k ≡ Value (value pages log lsn page)

-- the image of a page says its value at an LSN of the log, and no record above it and up to the redo start touches the page
pub record CanRedo (pages : ℕ) (log : List Record) (redo page : ℕ) (image : Known) : Type 0 where
  pub lsn : ℕ
  pub high : lsn ≤ length log
  pub value : image ≡ Value (value pages log lsn page)
  pub rest : list_any (touches pages page) (after_to lsn redo log) ≡ false

-- the value in a frame is the page's between two LSNs; so is that of its image, unless the page is dirty; and a dirty page has its value in the frame
pub record IsShown (pages : ℕ) (log : List Record) (low high page : ℕ) (image : Known) (f : Frame) : Type 0 where
  pub kept : (v : PageValue) → f.value ≡ Some v → IsValueIn pages log low high page (Value v)
  pub clean : f.dirty ≡ false → IsValueIn pages log low high page image
  pub read : f.value ≡ None → f.dirty ≡ false

-- memory has nothing of a page
pub record IsHidden (f : Frame) : Type 0 where
  pub unread : f.value ≡ None
  pub clean : f.dirty ≡ false
