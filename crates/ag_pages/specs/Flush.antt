-- Dirty pages that are written in batches.
use Rattle.std.specs.Prelude.{◌≡◌, ◌⊎◌, ℕ, suc, ◌<◌, ◌≤◌, List, [], ◌∷◌, ◌++◌, length, map, Bool, true, false, if◌then◌else◌, Option, Some, None}
use Rattle.std.specs.List.{concat, filter, AllByRecursion}
use Rattle.ag_model.specs.declared.value.PageValue.{PageValue}
use Rattle.ag_model.specs.Rows.{contains, page_numbers}
use Rattle.ag_outside.specs.Calls.{Call, TakesAll, FailsOnTheWay}
use Rattle.ag_outside.specs.Disks.{Content, Image, Only, put_all}
use Rattle.ag_page.specs.Image.{image}
use Rattle.ag_page.specs.Spelling.{has_image, page_bytes}
use Rattle.ag_pagestore.specs.declared.batch.PageWrite.{PageWrite}
use Rattle.ag_pagestore.specs.Batches.{IsWhole, IsWritten, pieces, written}
use Rattle.ag_pagestore.specs.Homes.{told_images}
use Rattle.ag_rules.specs.FlushEvent.{Batching, batch_with, by_eights}
use Rattle.ag_stripe.specs.declared.slot.Slot.{Slot}
use Rattle.ag_stripe.specs.Answers.{HasNoImage}
use Rattle.ag_stripe.specs.Known.{Told, empty_page, known_by}
use Rattle.ag_pages.specs.declared.flush.FlushFault.{FlushFault}
use Rattle.ag_pages.specs.declared.flush.FlushFault.TheVariants.{Disk, Unlawful, NoMemory}
use Rattle.ag_pages.specs.Reading.{WasOnlyRead}
use Rattle.ag_pages.specs.Views.{PagesView, slot, is_page, is_dirty, known_of}

-- pages from this number on, each above the one before
abbrev pub Rise : ℕ → List ℕ → Type 0
Rise low [] = Unit {0}
Rise low (p ∷ ps) = (low ≤ p) × (p < 2064) × Rise (suc p) ps

-- the dirty ones of so many data pages, rising
abbrev pub dirty_pages : ℕ → (ℕ → Slot) → List ℕ
dirty_pages count slot = filter (λ p. (slot p).dirty) (page_numbers count)

-- the value that memory keeps of a page, or else the empty page
abbrev pub kept_or_empty : ℕ → Option PageValue → PageValue
kept_or_empty page (Some v) = v
kept_or_empty page None = empty_page page

-- the value that memory keeps of a page
abbrev pub kept_value : (ℕ → Slot) → ℕ → PageValue
kept_value slot page = kept_or_empty page (slot page).value

-- its image, and the page that it is written to
abbrev pub page_write : (ℕ → Slot) → ℕ → PageWrite
page_write slot page = record { page = page; image = image 0 (page_bytes (kept_value slot page)) }

-- this of each of these pages
abbrev pub page_writes : (ℕ → Slot) → List ℕ → List PageWrite
page_writes slot pages = map (page_write slot) pages

-- the value of each of these pages is in memory and has an image
abbrev pub HasItsImage : (ℕ → Slot) → ℕ → Type 0
HasItsImage slot page = ((slot page).value ≡ Some (kept_value slot page)) × (has_image (kept_value slot page) ≡ true)

-- a page put into a batch, after which the batch may be a full one
abbrev pub one_more : List ℕ → ℕ → Batching
one_more last page = batch_with (record { full = []; last = last }) page

-- the same, where the page is dirty
abbrev pub one_more_if : Bool → List ℕ → ℕ → Batching
one_more_if dirty last page = if dirty then one_more last page else record { full = []; last = last }

-- the batches in which the dirty pages are written
abbrev pub batches : PagesView → List (List PageWrite)
batches v = map (page_writes (slot v)) (by_eights (dirty_pages v.count (slot v)))

-- the disk took a batch: each image in one call, and then a sync
pub record TookBatch {D : Type 0} (size : D → ℕ) (keeps : D → Bool) (reads : D → Image) (may_hold : D → ℕ → Content → Type 0) (did : D → Call → D → Type 0)
    (old : D) (batch : List PageWrite) (new : D) : Type 0 where
  pub keeping : keeps new ≡ keeps old
  pub sectors : size new ≡ size old
  pub content : reads new ≡ put_all (reads old) (written (reads old) batch)
  pub durable : Only (reads new) (may_hold new)
  pub calls : TakesAll did old (pieces (reads old) batch) new

-- the disk took these batches one after the other, with nothing but reads between them
abbrev pub TakesBatches : {D : Type 0} → (D → ℕ) → (D → Bool) → (D → Image) → (D → ℕ → Content → Type 0) → (D → Call → D → Type 0) → D → List (List PageWrite) → D → Type 0
TakesBatches size keeps reads may_hold did old [] new = WasOnlyRead size keeps reads may_hold did old new
TakesBatches {D = D} size keeps reads may_hold did old (batch ∷ batches) new =
    (before : D) × (after : D) × WasOnlyRead size keeps reads may_hold did old before
    × TookBatch size keeps reads may_hold did before batch after × TakesBatches size keeps reads may_hold did after batches new

-- the disk took some of the batches, and failed on the way of the next one, or while it was read before that
pub record BreaksOff {D : Type 0} (size : D → ℕ) (keeps : D → Bool) (reads : D → Image) (may_hold : D → ℕ → Content → Type 0) (did : D → Call → D → Type 0)
    (old : D) (batches : List (List PageWrite)) (new : D) : Type 0 where
  pub before : List (List PageWrite)
  pub at : List PageWrite
  pub after : List (List PageWrite)
  pub all : batches ≡ before ++ at ∷ after
  pub mid : D
  pub took : TakesBatches size keeps reads may_hold did old before mid
  pub failed : FailsOnTheWay did mid (pieces (reads mid) at) new ⊎ WasOnlyRead size keeps reads may_hold did mid new

-- the dirty pages of these batches were written and are clean; each value stays, in memory or in its image
pub record Flushed {D : Type 0} (size : D → ℕ) (keeps : D → Bool) (reads : D → Image) (may_hold : D → ℕ → Content → Type 0) (did : D → Call → D → Type 0)
    (old : D) (before : ℕ → Slot) (batches : List (List ℕ)) (new : D) (after : ℕ → Slot) : Type 0 where
  pub calls : TakesBatches size keeps reads may_hold did old (map (page_writes before) batches) new
  pub written : IsWritten (reads old) (page_writes before (concat batches)) (reads new)
  pub whole : AllByRecursion IsWhole (page_writes before (concat batches))
  pub fit : AllByRecursion (HasItsImage before) (concat batches)
  pub dirty : (page : ℕ) → (after page).dirty ≡ (if contains page (concat batches) then false else (before page).dirty)
  pub kept : (page : ℕ) (v : PageValue) → (before page).value ≡ Some v → (after page).value ≡ Some v
  pub known : (page : ℕ) → known_by (told_images (keeps new) (reads new)) page (after page).value ≡ known_by (told_images (keeps old) (reads old)) page (before page).value

-- the value of a page is in memory
abbrev pub IsInMemory : (ℕ → Slot) → ℕ → Type 0
IsInMemory slot page = (v : PageValue) × ((slot page).value ≡ Some v)

-- a dirty one of the data pages, whose value is in memory
pub record IsToWrite (v : PagesView) (page : ℕ) : Type 0 where
  pub own : is_page v page ≡ true
  pub dirty : is_dirty v page ≡ true
  pub value : IsInMemory (slot v) page

-- 1 to 8 dirty pages, rising
pub record IsDirtyBatch (v : PagesView) (pages : List ℕ) : Type 0 where
  pub some : 0 < length pages
  pub few : length pages ≤ 8
  pub rises : Rise 16 pages
  pub each : AllByRecursion (IsToWrite v) pages

-- why pages aren't written: the value of this dirty page has no image, the disk failed, or memory was refused
abbrev pub IsFlushFault : Told → PagesView → FlushFault → Type 0
IsFlushFault told v (Unlawful page) = (is_page v page ≡ true) × (is_dirty v page ≡ true) × HasNoImage (known_of told v page)
IsFlushFault told v Disk = Unit {0}
IsFlushFault told v NoMemory = Unit {0}

-- what memory keeps of the value of each page stays
abbrev pub StayKept : (ℕ → Slot) → (ℕ → Slot) → Type 0
StayKept before after = (page : ℕ) (v : PageValue) → (before page).value ≡ Some v → (after page).value ≡ Some v
