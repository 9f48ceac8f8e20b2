-- What is seen of a replica's pages.
use Rattle.std.specs.Prelude.{◌≡◌, ℕ, ◌+◌, ◌<◌, ◌≤◌, List, length, get_or, map, replicate, Bool, ◌&&◌, ◌==◌, nat_le, nat_lt, Option, Some, None}
use Rattle.ag_model.specs.Rows.{stripe_of}
use Rattle.ag_outside.specs.Disks.{Image}
use Rattle.ag_pagestore.specs.Homes.{told_images}
use Rattle.ag_stripe.specs.declared.slot.Slot.{Slot}
use Rattle.ag_stripe.specs.declared.stripe.Away.{Away}
use Rattle.ag_stripe.specs.Known.{Told, Known, known_by}
use Rattle.ag_stripe.specs.Redo.{AreDirtyKept}
use Rattle.ag_stripe.specs.Tables.{Table, empty_slot, slot_of}
use Rattle.ag_stripe.specs.View.{StripeView}

-- the place of a stripe, which is empty while the stripe is lent a disk
abbrev pub Place : Type 0
Place = Option (StripeView Away)

-- what is seen of a replica's pages: how many data pages there are, to which LSN each of the 16 stripes was redone, and
-- the stripes at their places
pub record PagesView : Type 0 where
  pub count : ℕ
  pub applied : List ℕ
  pub places : List Place

-- to which LSN the stripe at a place was redone
abbrev pub applied_at : Place → ℕ
applied_at (Some s) = s.applied
applied_at None = 0

-- what memory keeps of a page, by the place of its stripe
abbrev pub slot_at : Place → ℕ → Slot
slot_at (Some s) page = slot_of s.table page
slot_at None page = empty_slot

-- what is seen of so many data pages in these places
abbrev pub pages_view : ℕ → List Place → PagesView
pages_view count places = record {
  count = count;
  applied = map applied_at places;
  places = places;
}

-- what memory keeps of a page
abbrev pub slot : PagesView → ℕ → Slot
slot v page = slot_at (get_or v.places (stripe_of page) None) page

-- the LSN to which a stripe was redone
abbrev pub applied_of : PagesView → ℕ → ℕ
applied_of v stripe = get_or v.applied stripe 0

-- whether a page is one of the data pages
abbrev pub is_page : PagesView → ℕ → Bool
is_page v page = nat_le 16 page && nat_lt page (16 + v.count)

-- whether a page is one of the data pages of a stripe
abbrev pub is_of : PagesView → ℕ → ℕ → Bool
is_of v stripe page = nat_le 16 page && (nat_lt page (16 + v.count) && (stripe_of page == stripe))

-- whether a page was changed since its image was written
abbrev pub is_dirty : PagesView → ℕ → Bool
is_dirty v page = (slot v page).dirty

-- what is known of a page, by what memory keeps of it and by what is told of its image
abbrev pub known_of : Told → PagesView → ℕ → Known
known_of told v page = known_by told page (slot v page).value

-- what a disk tells of the images of pages
abbrev pub told_by : {D : Type 0} → (D → Bool) → (D → Image) → D → Told
told_by keeps reads disk = told_images (keeps disk) (reads disk)

-- a stripe has this number and so many data pages, and each dirty page has its value in memory
pub record IsStripe (count stripe : ℕ) (t : Table) : Type 0 where
  pub number : t.number ≡ stripe
  pub pages : t.pages ≡ count
  pub kept : AreDirtyKept t

-- this stripe is at a place
abbrev pub IsAt : List Place → ℕ → StripeView Away → Type 0
IsAt places number s = get_or places number None ≡ Some s

-- each of the 16 stripes is at its place
pub record ArePlaces (count : ℕ) (places : List Place) : Type 0 where
  pub low : 16 ≤ count
  pub high : count ≤ 2048
  pub sixteen : length places ≡ 16
  pub each : (number : ℕ) → number < 16 → (s : StripeView Away) × IsAt places number s × IsStripe count number s.table

-- so many first stripes were made, each redone to this LSN, with nothing read in
pub record AreFresh (count applied many : ℕ) (places : List Place) : Type 0 where
  pub long : length places ≡ many
  pub lsns : map applied_at places ≡ replicate many applied
  pub each : (stripe : ℕ) → stripe < many → (s : StripeView Away) × IsAt places stripe s × IsStripe count stripe s.table × ((page : ℕ) → slot_of s.table page ≡ empty_slot)
