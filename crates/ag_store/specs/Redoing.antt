-- What redo leaves of the pages in memory, and reading of a scripted disk.
use Rattle.std.specs.Prelude.{◌≡◌, ℕ, ◌<◌, ◌≤◌, ◌==◌, ◌||◌, length, set, replicate, Bool, true, false}
use Rattle.ag_model.specs.declared.record.Log.{Log}
use Rattle.ag_model.specs.Page.{value}
use Rattle.ag_model.specs.Prefixes.{end_of}
use Rattle.ag_model.specs.Rows.{stripe_of}
use Rattle.ag_outside.specs.Disks.{Content, Image, SameImages}
use Rattle.ag_outside.specs.Scripts.{ScriptedView}
use Rattle.ag_outside.specs.Shown.{reads_of, holds_of}
use Rattle.ag_stripe.specs.Known.Known.{Value}
use Rattle.ag_pages.specs.Views.{PagesView, applied_of, is_of, is_dirty, known_of}
use Rattle.ag_store.specs.Images.{is_touched_between}
use Rattle.ag_store.specs.Standing.{IsDataPage, told_on}

-- a scripted disk was read, and nothing else: it shows what it did, also after a crash
pub record ShowsSame {D : Type 0} (keeps : D → Bool) (reads : D → Image) (may_hold : D → ℕ → Content → Type 0) (old new : ScriptedView D) : Type 0 where
  pub content : reads_of reads new ≡ reads_of reads old
  pub images : SameImages (holds_of keeps may_hold old) (holds_of keeps may_hold new)
  pub unsynced : new.unsynced ≡ old.unsynced
  pub keeping : keeps new.disk ≡ keeps old.disk

-- a stripe was redone to this LSN of a log
pub record IsRedone (image : Image) (log : Log) (stripe end : ℕ) (old new : PagesView) : Type 0 where
  pub count : new.count ≡ old.count
  pub applied : new.applied ≡ set old.applied stripe end
  pub values : (page : ℕ) → is_of old stripe page ≡ true → known_of (told_on image) new page ≡ Value (value old.count log.records end page)
  pub dirty : (page : ℕ) → is_of old stripe page ≡ true → is_dirty new page ≡ (is_dirty old page || is_touched_between old.count log.records page (applied_of old stripe) end)
  pub others : (page : ℕ) → (stripe_of page == stripe) ≡ false → known_of (told_on image) new page ≡ known_of (told_on image) old page
  pub others_dirty : (page : ℕ) → (stripe_of page == stripe) ≡ false → is_dirty new page ≡ is_dirty old page

-- the stripes below this number were redone to the end of a log
pub record AreRedoneBelow (image : Image) (log : Log) (below : ℕ) (old new : PagesView) : Type 0 where
  pub count : new.count ≡ old.count
  pub sixteen : length new.applied ≡ length old.applied
  pub applied : (stripe : ℕ) → stripe < below → applied_of new stripe ≡ end_of log
  pub values : (page : ℕ) → IsDataPage old.count page → stripe_of page < below → known_of (told_on image) new page ≡ Value (value old.count log.records (end_of log) page)
  pub dirty : (page : ℕ) → IsDataPage old.count page → stripe_of page < below →
      is_dirty new page ≡ (is_dirty old page || is_touched_between old.count log.records page (applied_of old (stripe_of page)) (end_of log))
  pub others_applied : (stripe : ℕ) → below ≤ stripe → applied_of new stripe ≡ applied_of old stripe
  pub others : (page : ℕ) → below ≤ stripe_of page → known_of (told_on image) new page ≡ known_of (told_on image) old page
  pub others_dirty : (page : ℕ) → below ≤ stripe_of page → is_dirty new page ≡ is_dirty old page

-- all stripes were redone to the end of a log
pub record AreRedone (image : Image) (log : Log) (old new : PagesView) : Type 0 where
  pub count : new.count ≡ old.count
  pub applied : new.applied ≡ replicate 16 (end_of log)
  pub values : (page : ℕ) → IsDataPage old.count page → known_of (told_on image) new page ≡ Value (value old.count log.records (end_of log) page)
  pub dirty : (page : ℕ) → IsDataPage old.count page → is_dirty new page ≡ (is_dirty old page || is_touched_between old.count log.records page (applied_of old (stripe_of page)) (end_of log))
