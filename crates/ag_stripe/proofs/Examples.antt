-- Worked examples: stripe 5, row by row.
use Rattle.std.proofs.Common.{◌≡◌, true, false, [], ◌∷◌, map, replicate, lit≤, refl}
use Rattle.std.specs.Prelude.{Some, None}
use Rattle.ag_model.specs.declared.record.Log.{Log}
use Rattle.ag_model.specs.declared.record.Record.TheVariants.{Put, Commit, Term}
use Rattle.ag_model.specs.declared.value.Change.TheVariants.{Put as PutChange}
use Rattle.ag_model.specs.declared.value.PageValue.{PageValue}
use Rattle.ag_model.specs.declared.value.Value.{Value}
use Rattle.ag_model.specs.Page.{value}
use Rattle.ag_stripe.specs.Ahead.{IsAhead}
use Rattle.ag_stripe.specs.Known.{empty_page}
use Rattle.ag_stripe.specs.Known.Known.{Value as HasValue}
use Rattle.ag_stripe.specs.Redo.{redone, redone_slot}
use Rattle.ag_stripe.specs.Tables.{Table, is_own, page_count, place_of, empty_slot}
use Rattle.ag_stripe.specs.Visits.{lesser}

-- stripe 5 of a database with 64 data pages, with nothing read in
abbrev stripe_5 : Table
stripe_5 = record { number = 5; pages = 64; slots = replicate 4 empty_slot }

-- it has the pages 21, 37, 53 and 69, at the places 0 to 3
its_pages : map (is_own stripe_5) (5 ∷ 20 ∷ 21 ∷ 22 ∷ 37 ∷ 53 ∷ 69 ∷ 85 ∷ []) ≡ false ∷ false ∷ true ∷ false ∷ true ∷ true ∷ true ∷ false ∷ []
its_pages = refl

its_places : map place_of (21 ∷ 37 ∷ 53 ∷ 69 ∷ []) ≡ 0 ∷ 1 ∷ 2 ∷ 3 ∷ []
its_places = refl

-- with 16 data pages each stripe has one page, with 17 stripe 0 has two
page_counts : (page_count 5 64 ≡ 4) × (page_count 5 16 ≡ 1) × (page_count 15 16 ≡ 1) × (page_count 0 17 ≡ 2) × (page_count 1 17 ≡ 1)
page_counts = (refl, refl, refl, refl, refl)

-- a value of one byte
abbrev aa : Value
aa = record { len = 1; bytes = 0xaa ∷ replicate 63 0 }

-- the opening record, and a block that sets key 5
abbrev log : Log
log = record { records = Term 1 ∷ Put 1 5 aa ∷ Commit 1 (21 ∷ []) ∷ []; ends = 1 ∷ 3 ∷ [] }

-- page 21 after the block: LSN 3, no horizon, one version that is committed at LSN 3
abbrev page_21 : PageValue
page_21 = record { page = 21; lsn = 3; horizon = 0; versions = record { lsn = 2; txn = 1; commit = 3; key = 5; change = PutChange aa } ∷ [] }

-- redo of the block takes the empty page there
redo_block : redone_slot 3 (Commit 1 (21 ∷ [])) (redone_slot 2 (Put 1 5 aa) (record { value = Some (empty_page 21); dirty = false })) ≡ record { value = Some page_21; dirty = true }
unfolding redone
redo_block = refl

-- a page that is there already stays, and is dirty
redo_ahead : redone_slot 3 (Commit 1 (21 ∷ [])) (redone_slot 2 (Put 1 5 aa) (record { value = Some page_21; dirty = false })) ≡ record { value = Some page_21; dirty = true }
unfolding redone
redo_ahead = refl

-- a page that wasn't read in stays away
redo_away : redone_slot 2 (Put 1 5 aa) empty_slot ≡ record { value = None; dirty = true }
redo_away = refl

-- for a stripe at LSN 1 of this log, page 21 is ahead
ahead : IsAhead 64 log 1 21 (HasValue page_21)
unfolding value
ahead = record { lsn = 3; low = lit≤ tt; high = lit≤ tt; value = refl }

-- the least bad page
least_bad : (lesser None 37 ≡ Some 37) × (lesser (Some 37) 21 ≡ Some 21) × (lesser (Some 21) 37 ≡ Some 21)
least_bad = (refl, refl, refl)
