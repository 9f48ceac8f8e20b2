-- What a replica keeps and has in memory agrees with its log.
use Rattle.std.specs.Prelude.{◌≡◌, ℕ, ◌≤◌, ◌<◌, [], None, Bool, true, false, not, ◌&&◌, if◌then◌else◌}
use Rattle.ag_model.specs.Cells.{is_sound}
use Rattle.ag_model.specs.Prefixes.{end_of}
use Rattle.ag_model.specs.Proper.{IsProper}
use Rattle.ag_model.specs.Rows.{contains, stripe_of}
use Rattle.ag_rules.specs.Replica.{Kept, image, is_reverting}
use Rattle.ag_stripe.specs.Known.{Known}
use Rattle.ag_stripe.specs.Spelled.{AreSpelled}
use Rattle.ag_pool.specs.declared.frame.Frame.{Frame}
use Rattle.ag_pool.specs.View.{PoolView, IsPool, frame, stripe_at}
use Rattle.ag_law_pages.specs.Images.{IsDataPage, CanRedo, IsShown, IsHidden}

-- whether the image of a page is the replica's own: it is sound, and the page isn't foreign
abbrev pub is_own : Kept → ℕ → Bool
is_own k page = is_sound (image k page) && not (contains page k.master.foreign)

-- the log is proper, and each page that is the replica's own can be redone from its image; said has what each image says
pub record IsRightDisk (pages : ℕ) (k : Kept) (said : ℕ → Known) : Type 0 where
  pub proper : IsProper pages k.log
  pub spelled : AreSpelled k.log.records
  pub redo : k.master.redo_start ≤ end_of k.log
  pub settled : is_reverting k.master.state ≡ false → k.master.foreign ≡ []
  pub images : (page : ℕ) → IsDataPage pages page → is_own k page ≡ true → CanRedo pages k.log.records k.master.redo_start page (said page)

-- whether reads may see a page: it is the replica's own, which doesn't revert
abbrev pub is_shown : Kept → ℕ → ℕ → Bool
is_shown k state page = is_own k page && not (is_reverting state)

-- the LSN up to which a page may be ahead: its own stripe's, or the log's end while a start redoes it
abbrev pub reach : Bool → Kept → ℕ → ℕ
reach ahead k applied = if ahead then end_of k.log else applied

-- what memory has of a page agrees with the log and with what is kept, where its stripe stands so
pub record IsRightPage (ahead : Bool) (pages : ℕ) (k : Kept) (said : ℕ → Known) (state applied page : ℕ) (f : Frame) : Type 0 where
  pub shown : is_shown k state page ≡ true → IsShown pages k.log.records applied (reach ahead k applied) page (said page) f
  pub hidden : is_shown k state page ≡ false → IsHidden f
  pub pending : f.pending ≡ true → is_sound (image k page) ≡ false
  pub held : f.held ≡ None

-- what memory has of all pages agrees with the log and with what is kept
pub record IsRight (ahead : Bool) (pages : ℕ) (k : Kept) (said : ℕ → Known) (state : ℕ) (pool : PoolView) : Type 0 where
  pub disk : IsRightDisk pages k said
  pub whole : IsPool pool
  pub count : pool.pages ≡ pages
  pub kept_state : is_reverting state ≡ is_reverting k.master.state
  pub low : (x : ℕ) → x < 16 → k.master.redo_start ≤ (stripe_at pool x).applied
  pub high : (x : ℕ) → x < 16 → (stripe_at pool x).applied ≤ end_of k.log
  pub reverting : is_reverting state ≡ true → (x : ℕ) → x < 16 → (stripe_at pool x).applied ≡ k.master.redo_start
  pub each : (page : ℕ) → IsDataPage pages page → IsRightPage ahead pages k said state (stripe_at pool (stripe_of page)).applied page (frame pool page)
