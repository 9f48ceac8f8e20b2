-- Copies of pages that are made before a call changes anything.
use Rattle.std.specs.Prelude.{◌≡◌, ℕ, ◌+◌, ◌<◌, ◌≤◌, List, [], ◌∷◌, Option, false}
use Rattle.std.specs.List.{filter_map, list_any}
use Rattle.std.specs.Option.{option_map}
use Rattle.ag_model.specs.declared.record.Record.{Record}
use Rattle.ag_model.specs.Rows.{contains, touches}
use Rattle.ag_txn.specs.View.{Copies, copy_of, with_copy, page_after_all}
use Rattle.ag_txn.specs.declared.copies.FreshCopy.{FreshCopy}

-- a data page, where there are so many
pub record IsPage (pages page : ℕ) : Type 0 where
  pub low : 16 ≤ page
  pub high : page < 16 + pages

-- the copies with these ones
abbrev pub kept_all : List FreshCopy → Copies → Copies
kept_all [] copies = copies
kept_all (f ∷ fs) copies = with_copy f.page f.copy (kept_all fs copies)

-- a fresh copy of a page that has one, with these records, of which the first has this LSN
abbrev pub fresh_of : ℕ → ℕ → List Record → Copies → ℕ → Option FreshCopy
fresh_of pages first rs copies page = option_map (λ v. record { page = page; copy = page_after_all pages first rs page v }) (copy_of copies page)

-- fresh copies of those of these pages that have one
abbrev pub fresh_copies : ℕ → ℕ → List Record → Copies → List ℕ → List FreshCopy
fresh_copies pages first rs copies listed = filter_map (fresh_of pages first rs copies) listed

-- the records touch none but these pages
abbrev pub OnlyTouch : ℕ → List ℕ → List Record → Type 0
OnlyTouch pages listed rs = (page : ℕ) → contains page listed ≡ false → list_any (touches pages page) rs ≡ false
