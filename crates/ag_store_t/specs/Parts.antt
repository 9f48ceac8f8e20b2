-- Pages and a disk by themselves.
use Rattle.std.specs.Prelude.{◌≡◌, ℕ, [], ◌∷◌, List, replicate, true, Some}
use Rattle.ag_model.specs.declared.record.Log.{Log}
use Rattle.ag_model.specs.declared.record.Record.{Record}
use Rattle.ag_model.specs.declared.record.Record.TheVariants.{Put, Commit}
use Rattle.ag_model.specs.Blocks.{with_block}
use Rattle.ag_outside.specs.Disks.{Image}
use Rattle.ag_stripe.specs.Ahead.{IsAhead}
use Rattle.ag_kept.specs.Kept.{opening_kept}
use Rattle.ag_pages.specs.Views.{PagesView, is_page, known_of}
use Rattle.ag_store.specs.Standing.{told_on}

-- the records of the block: transaction 1 puts the value of one byte, aa, at key 5, and commits
abbrev pub new_records : List Record
new_records = Put 1 5 (record { len = 1; bytes = 170 ∷ replicate 63 0 }) ∷ Commit 1 (21 ∷ []) ∷ []

-- the log with that block
abbrev pub new_log : Log
new_log = with_block (opening_kept 16 0).log new_records

-- 16 pages over an image of zeros, each with its value after the first record of that log or after a later one
pub record AreParts (image : Image) (v : PagesView) : Type 0 where
  pub zeros : (at : ℕ) → image at ≡ Some (replicate 512 0)
  pub sixteen : v.count ≡ 16
  pub ahead : (page : ℕ) → is_page v page ≡ true → IsAhead 16 new_log 1 page (known_of (told_on image) v page)
