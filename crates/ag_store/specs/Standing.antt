-- What holds of the fields of each store.
use Rattle.std.specs.Prelude.{◌≡◌, ℕ, ◌+◌, ◌-◌, ◌<◌, ◌≤◌, List, length, get_or, Bool, true, false, Option, Some}
use Rattle.std.specs.Option.{MatchOption}
use Rattle.std.specs.List.{AllByRecursion}
use Rattle.ag_model.specs.Page.{value}
use Rattle.ag_model.specs.Prefixes.{IsBlockEnd}
use Rattle.ag_model.specs.Proper.{IsProper}
use Rattle.ag_model.specs.Rows.{stripe_of}
use Rattle.ag_outside.specs.Disks.{Content, Image}
use Rattle.ag_outside.specs.Scripts.{ScriptedView}
use Rattle.ag_outside.specs.Shown.{reads_of}
use Rattle.ag_logstore.specs.Stored.{log_end}
use Rattle.ag_pagestore.specs.Places.{image_of}
use Rattle.ag_stripe.specs.Known.{Told, in_home}
use Rattle.ag_stripe.specs.Known.Known.{Value}
use Rattle.ag_kept.specs.Kept.{Kept, kept_on}
use Rattle.ag_kept.specs.Standing.{IsAtHome, IsMemory}
use Rattle.ag_pages.specs.Views.{PagesView, known_of}
use Rattle.ag_store.specs.Images.{IsImageOf}
use Rattle.ag_store.specs.Views.{MemoryView, applied_in, dirty_in}

-- a page of a database of so many data pages
abbrev pub IsDataPage : ℕ → ℕ → Type 0
IsDataPage pages page = (16 ≤ page) × (page < 16 + pages)

-- what a disk tells of the images of its pages
abbrev pub told_on : Image → Told
told_on image = Some (image_of image)

-- each stripe stands at the end of a block that isn't below the redo start
pub record AreAtEnds (kept : Kept) (applied : List ℕ) : Type 0 where
  pub sixteen : length applied ≡ 16
  pub ends : AllByRecursion (λ n. IsBlockEnd kept.log n × (kept.redo ≤ n)) applied

-- each page is as its image or memory says, its value where its stripe stands
abbrev pub AreValues : ℕ → Image → Kept → PagesView → Type 0
AreValues pages image kept v = (page : ℕ) → IsDataPage pages page
    → known_of (told_on image) v page ≡ Value (value pages kept.log.records (get_or v.applied (stripe_of page) 0) page)

-- memory has the log of the disk, and the pages of its log
pub record IsLoaded {D : Type 0} (keeps : D → Bool) (reads : D → Image) (may_hold : D → ℕ → Content → Type 0) (disk : ScriptedView D) (pages : ℕ) (m : MemoryView) : Type 0 where
  pub log : IsMemory keeps reads may_hold disk m.log
  pub count : m.pages.count ≡ pages
  pub redo : m.redo ≡ (kept_on (reads_of reads disk) true).redo
  pub ends : AreAtEnds (kept_on (reads_of reads disk) true) m.pages.applied
  pub values : AreValues pages (reads_of reads disk) (kept_on (reads_of reads disk) true) m.pages

-- each image is that of its page
abbrev pub AreImages : ℕ → Image → Kept → List ℕ → List Bool → Type 0
AreImages pages image kept applied dirty = (page : ℕ) → IsDataPage pages page
    → IsImageOf pages kept.log kept.redo (get_or applied (stripe_of page) 0) (get_or dirty (page - 16) false) page (in_home (told_on image) page)

-- the disk is that of a replica with so many pages, whose log is proper and whose images are those of its pages, unless a fault came
pub record IsStore {D : Type 0} (size : D → ℕ) (keeps : D → Bool) (reads : D → Image) (may_hold : D → ℕ → Content → Type 0)
    (disk : ScriptedView D) (pages : ℕ) (memory : Option MemoryView) (sound : Bool) : Type 0 where
  pub room : log_end ≤ size disk.disk
  pub low : 16 ≤ pages
  pub high : pages ≤ 2048
  pub stands : sound ≡ true → IsAtHome keeps reads disk
  pub proper : sound ≡ true → IsProper pages (kept_on (reads_of reads disk) true).log
  pub redo : sound ≡ true → IsBlockEnd (kept_on (reads_of reads disk) true).log (kept_on (reads_of reads disk) true).redo
  pub images : sound ≡ true → AreImages pages (reads_of reads disk) (kept_on (reads_of reads disk) true) (applied_in (kept_on (reads_of reads disk) true).redo memory) (dirty_in pages memory)
  pub loaded : sound ≡ true → MatchOption memory (Unit {0}) (λ m. IsLoaded keeps reads may_hold disk pages m)
