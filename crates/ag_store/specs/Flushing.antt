-- How a flush goes.
use Rattle.std.specs.Prelude.{◌≡◌, ℕ, List, Bool, true, false, if◌then◌else◌, Some}
use Rattle.ag_model.specs.declared.value.PageValue.{PageValue}
use Rattle.ag_model.specs.Cells.{written_cells}
use Rattle.ag_outside.specs.Disks.{Content, Image, Only}
use Rattle.ag_outside.specs.Scripts.{ScriptedView}
use Rattle.ag_outside.specs.Shown.{reads_of, holds_of, did_of}
use Rattle.ag_page.specs.Spelling.{IsInRange}
use Rattle.ag_logstore.specs.Stores.{StoreView as LogView}
use Rattle.ag_pagestore.specs.declared.batch.PageWrite.{PageWrite}
use Rattle.ag_pagestore.specs.Homes.{told_images}
use Rattle.ag_pagestore.specs.Places.{image_of, page_cells, IsOutside}
use Rattle.ag_stripe.specs.Answers.{HasNoImage}
use Rattle.ag_stripe.specs.Known.{in_home}
use Rattle.ag_stripe.specs.Known.Known.{Value}
use Rattle.ag_kept.specs.Kept.{SamePages, kept_on, master_on}
use Rattle.ag_kept.specs.Saving.{freed, SavesMaster}
use Rattle.ag_kept.specs.Standing.{IsAtHome, IsMemory}
use Rattle.ag_pages.specs.Flush.{TakesBatches, batches}
use Rattle.ag_pages.specs.Views.{PagesView, is_page, is_dirty, known_of}
use Rattle.ag_store.specs.Standing.{told_on}

-- The dirty pages were written: no page is dirty any more, and what is known of each is as it was. Each one that was dirty has a new
-- image, which says its value. Each other one has the image that it had, and each sector outside of the dirty ones what it had.
pub record WrotePages {D : Type 0} (keeps : D → Bool) (reads : D → Image) (old new : ScriptedView D) (before after : PagesView) : Type 0 where
  pub clean : (page : ℕ) → is_page before page ≡ true → is_dirty after page ≡ false
  pub known : (page : ℕ) → is_page before page ≡ true → known_of (told_images (keeps new.disk) (reads_of reads new)) after page
      ≡ known_of (told_images (keeps old.disk) (reads_of reads old)) before page
  pub cells : (page : ℕ) → is_page before page ≡ true →
      page_cells (reads_of reads new) page ≡ (if is_dirty before page then written_cells (page_cells (reads_of reads old) page) else page_cells (reads_of reads old) page)
  pub images : (page : ℕ) (w : PageValue) → is_page before page ≡ true → is_dirty before page ≡ true →
      known_of (told_images (keeps old.disk) (reads_of reads old)) before page ≡ Value w → w.page ≡ page → IsInRange w
      → in_home (Some (image_of (reads_of reads new))) page ≡ Value w
  pub other_images : (page : ℕ) → is_page before page ≡ true → is_dirty before page ≡ false → image_of (reads_of reads new) page ≡ image_of (reads_of reads old) page
  pub others : (at : ℕ) → ((page : ℕ) → is_page before page ≡ true → is_dirty before page ≡ true → IsOutside page at) → reads_of reads new at ≡ reads_of reads old at

-- outside of any order the disk took these batches of pages, each with a sync after it
abbrev pub TakesPages : {D : Type 0} → (D → ℕ) → (D → Bool) → (D → Image) → (D → ℕ → Content → Type 0) → (D → ℕ) → ScriptedView D → List (List PageWrite) → ScriptedView D → Type 0
TakesPages size keeps reads may_hold faults old taken new =
    TakesBatches (λ s. size s.disk) (λ s. keeps s.disk) (reads_of reads) (holds_of keeps may_hold) (did_of keeps reads may_hold faults) (freed old) taken new

-- each page has an image, by its value in memory, or else by what this image of the disk says
abbrev pub HaveImages : Image → PagesView → Type 0
HaveImages image v = (page : ℕ) → is_page v page ≡ true → HasNoImage (known_of (told_on image) v page) → ⊥

-- the disk took the batches of dirty pages first, and then its master with this redo start, which left its log and its pages as they were
pub record PagesThenMaster {D : Type 0} (size : D → ℕ) (keeps : D → Bool) (reads : D → Image) (may_hold : D → ℕ → Content → Type 0) (faults : D → ℕ)
    (old : ScriptedView D) (before : PagesView) (redo : ℕ) (after : PagesView) (new : ScriptedView D) : Type 0 where
  pub between : ScriptedView D
  pub pages : TakesPages size keeps reads may_hold faults old (batches before) between
  pub wrote : WrotePages keeps reads old between before after
  pub written_home : IsAtHome keeps reads between
  pub durable : (((page : ℕ) → is_page before page ≡ true → is_dirty before page ≡ false) → Only (reads_of reads old) (holds_of keeps may_hold old)) →
      Only (reads_of reads between) (holds_of keeps may_hold between)
  pub master : SavesMaster keeps reads may_hold faults between (record (master_on (reads_of reads between)) { redo = redo }) new
  pub home : IsAtHome keeps reads new
  pub kept : (loaded : Bool) → kept_on (reads_of reads new) loaded ≡ record (kept_on (reads_of reads between) loaded) { redo = redo }
  pub memory : (s : LogView) → IsMemory keeps reads may_hold between s → IsMemory keeps reads may_hold new s
  pub same_pages : SamePages (reads_of reads between) (reads_of reads new)
