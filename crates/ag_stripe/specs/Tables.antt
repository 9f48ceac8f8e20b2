-- The pages of one stripe, as memory keeps them.
use Rattle.std.specs.Prelude.{◌≡◌, ℕ, ◌+◌, ◌-◌, ◌/◌, ◌<◌, ◌≤◌, List, length, get_or, Bool, false, ◌&&◌, ◌==◌, nat_le, nat_lt, if◌then◌else◌, None}
use Rattle.ag_model.specs.PageSets.{pages_where}
use Rattle.ag_model.specs.Rows.{stripe_of}
use Rattle.ag_stripe.specs.declared.slot.Slot.{Slot}

-- a stripe's number, the number of data pages of the database, and what memory keeps of each of the stripe's pages, rising
pub record Table : Type 0 where
  pub number : ℕ
  pub pages : ℕ
  pub slots : List Slot

-- whether a page is one of the stripe's
abbrev pub is_own : Table → ℕ → Bool
is_own t page = nat_le 16 page && (nat_lt page (16 + t.pages) && (stripe_of page == t.number))

-- how many pages a stripe of this number has
abbrev pub page_count : ℕ → ℕ → ℕ
page_count number pages = (pages + 15 - number) / 16

-- the place of a page among those of its stripe
abbrev pub place_of : ℕ → ℕ
place_of page = page / 16 - 1

-- what is kept of a page that wasn't read in
abbrev pub empty_slot : Slot
empty_slot = record { value = None; dirty = false }

-- what memory keeps of a page
unfoldable pub slot_of : Table → ℕ → Slot
slot_of t page = if is_own t page then get_or t.slots (place_of page) empty_slot else empty_slot

-- whether a page was changed since its image was written
abbrev pub is_dirty : Table → ℕ → Bool
is_dirty t page = (slot_of t page).dirty

-- whether a page of the stripe of this number has one of the first slots, so many, and is dirty there
abbrev pub is_dirty_at : ℕ → List Slot → ℕ → ℕ → Bool
is_dirty_at number slots count page = (stripe_of page == number) && (nat_lt (place_of page) count && (get_or slots (place_of page) empty_slot).dirty)

-- the dirty pages, rising
abbrev pub dirty_pages : Table → List ℕ
dirty_pages t = pages_where (is_dirty t)

-- there is a slot for each page of the stripe
pub record IsTable (t : Table) : Type 0 where
  pub small : t.number < 16
  pub low : 16 ≤ t.pages
  pub high : t.pages ≤ 2048
  pub count : length t.slots ≡ page_count t.number t.pages

-- it is the same stripe
pub record IsSameTable (old new : Table) : Type 0 where
  pub number : new.number ≡ old.number
  pub pages : new.pages ≡ old.pages
