-- What written pages make of an image.
use Rattle.std.proofs.Common.{◌≡◌, ◌⊎◌, ℕ, zero, suc, ◌+◌, ◌-◌, ◌<◌, ◌≤◌, List, [], ◌∷◌, ◌++◌, length, take, map, get_or, false, refl, sym, ap, ◌∙◌, subst, arith, inl, inr}
use Rattle.std.specs.List.{AllByRecursion}
use Rattle.std.proofs.lemmas.List.{ext_get_or, length-map, get_or-set_same, get_or-set_other, length-set}
use Rattle.std.proofs.lemmas.List.FromFn.{get_or-map-range_with_len, length-map-range_with_len}
use Rattle.std.proofs.lemmas.Bool.{cases_eq, cases_lt}
use Rattle.ag_model.specs.declared.answer.Cell.{Cell}
use Rattle.ag_model.specs.Cells.{mark_after, kept_cells, written_cells}
use Rattle.ag_outside.specs.declared.disk.SectorWrite.{SectorWrite}
use Rattle.ag_outside.specs.Disks.{Image, or_zeros, put_all, writes}
use Rattle.ag_outside.specs.Scripts.{kept}
use Rattle.ag_logblock.specs.Fitting.{header_of}
use Rattle.ag_logstore.specs.Stored.{IsLogSector}
use Rattle.ag_model.specs.declared.record.Log.{Log}
use Rattle.ag_master.specs.declared.master.Master.{Master as SectorMaster}
use Rattle.ag_master.specs.Spelling.{spelling}
use Rattle.ag_logstore.specs.Stores.{StoreView, IsCurrent}
use Rattle.ag_logstore.proofs.Chains.{region_alone, current_alone}
use Rattle.ag_kept.specs.Kept.{master_on}
use Rattle.ag_kept.specs.Standing.{HasLog}
use Rattle.ag_kept.specs.Starting.{own_log}
use Rattle.ag_pagestore.specs.declared.batch.PageWrite.{PageWrite}
use Rattle.ag_pagestore.specs.Batches.{RisesFrom, IsWhole, written as sectors_written, pieces, marked}
use Rattle.ag_pagestore.specs.Places.{place, page_cells, IsOutside}
use Rattle.ag_pagestore.specs.Stopped.{AreKept}
use Rattle.ag_lists.proofs.Each.{all_take}
use Rattle.ag_pagestore.proofs.Kept.{pages_kept, others_kept, all_cells}
use Rattle.ag_pagestore.proofs.Pages.{pages_written, outside_stays}
use Rattle.ag_pieces.specs.Pieces.{sectors_in}
use Rattle.ag_suspect.specs.Rows.{suspects_on}
use Rattle.ag_rules.specs.Replica.{Kept, image, with_image}
use Rattle.ag_rules.specs.Plan.{Write, Page_write, batch_written}
use Rattle.ag_rules.specs.Cut.{batch_partly_written}
use Rattle.ag_keeping.specs.Keeping.{cells_on, kept_on, IsKeeping, store_on}
use Rattle.ag_keeping.specs.Meaning.{Says, Mean}
use Rattle.ag_keeping.proofs.Built.{says_so, master_is, log_is}
use Rattle.ag_keeping.proofs.Frames.{same_cells}
use Rattle.ag_keeping.proofs.Suspects.{rows_stay, suspects_stay}

-- the writes of these pages
abbrev pub page_writes : List PageWrite → List Write
page_writes ws = map (λ (w : PageWrite). Page_write w.page) ws

-- the sectors of the first pages
sectors_first : (disk : Image) (n : ℕ) (ws : List PageWrite) → sectors_in (take n (pieces disk ws)) ≡ sectors_written disk (take n ws)
sectors_first disk zero ws = refl
sectors_first disk (suc n) [] = refl
sectors_first disk (suc n) (w ∷ ws) = ap (λ (zs : List SectorWrite). writes (place w.page) (marked disk w) ++ zs) (sectors_first disk n ws)

pub sectors_all : (disk : Image) (ws : List PageWrite) → sectors_in (pieces disk ws) ≡ sectors_written disk ws
sectors_all disk [] = refl
sectors_all disk (w ∷ ws) = ap (λ (zs : List SectorWrite). writes (place w.page) (marked disk w) ++ zs) (sectors_all disk ws)

writes_first : (n : ℕ) (ws : List PageWrite) → take n (page_writes ws) ≡ page_writes (take n ws)
writes_first zero ws = refl
writes_first (suc n) [] = refl
writes_first (suc n) (w ∷ ws) = ap (λ (zs : List Write). Page_write w.page ∷ zs) (writes_first n ws)

rises_first : (low n : ℕ) (ws : List PageWrite) → RisesFrom low ws → RisesFrom low (take n ws)
rises_first low zero ws rises = tt
rises_first low (suc n) [] rises = tt
rises_first low (suc n) (w ∷ ws) rises = (rises.0, rises.1, rises_first (suc w.page) n ws rises.2)

-- what becomes of the cells of a page whose first sector has this number
abbrev Change : Type 0
Change = ℕ → List Cell → List Cell

-- the disk once the cells of these pages have changed, one page after the other
abbrev run : Change → ℕ → Kept → List PageWrite → Kept
run c from k [] = k
run c from k (w ∷ ws) = run c (from + 16) (with_image k w.page (c from (image k w.page))) ws

-- the cells of these pages have changed so
abbrev AreChanged : Change → Image → Image → ℕ → List PageWrite → Type 0
AreChanged c old new from [] = Unit {0}
AreChanged c old new from (w ∷ ws) = (page_cells new w.page ≡ c from (page_cells old w.page)) × AreChanged c old new (from + 16) ws

-- pages that aren't one of these
abbrev IsNone : ℕ → List PageWrite → Type 0
IsNone q ws = AllByRecursion (λ w. w.page ≡ q → ⊥) ws

none_below : (low q : ℕ) (ws : List PageWrite) → RisesFrom low ws → q < low → IsNone q ws
none_below low q [] rises lt = tt
none_below low q (w ∷ ws) rises lt = (λ e. absurd (omega (arith, e, lt, rises.0)), none_below (suc w.page) q ws rises.2 (omega (arith, lt, rises.0)))

-- a page of so many
at_page : (k : Kept) (pages q : ℕ) → 16 ≤ q → q < 16 + pages → length k.images ≡ pages → (cells : List Cell) → image (with_image k q cells) q ≡ cells
at_page k pages q low high long cells = get_or-set_same k.images (q - 16) cells [] (omega (arith, low, high, long))

other_page : (k : Kept) (p q : ℕ) → 16 ≤ p → 16 ≤ q → (p ≡ q → ⊥) → (cells : List Cell) → image (with_image k p cells) q ≡ image k q
other_page k p q low_p low_q apart cells = get_or-set_other k.images (p - 16) (q - 16) cells [] (λ (e : q - 16 ≡ p - 16). apart (omega (arith, e, low_p, low_q)))

module _ (pages : ℕ) (c : Change) (old new : Image) where
  -- the images below one page are new, and from it on they are old
  record IsBetween (low : ℕ) (k : Kept) : Type 0 where
    long : length k.images ≡ pages
    below : (q : ℕ) → 16 ≤ q → q < low → q < 16 + pages → image k q ≡ page_cells new q
    above : (q : ℕ) → 16 ≤ q → low ≤ q → q < 16 + pages → image k q ≡ page_cells old q

  abbrev Others : ℕ → List PageWrite → Type 0
  Others low ws = (q : ℕ) → 16 ≤ q → q < 16 + pages → low ≤ q → IsNone q ws → page_cells new q ≡ page_cells old q

  all_new : (low : ℕ) (k : Kept) → IsBetween low k → Others low [] → k ≡ record k { images = cells_on pages new }
  all_new low k b others =
      let long = length-map-range_with_len (page_cells new) 16 pages in
      ap (λ (cells : List (List Cell)). record k { images = cells }) (ext_get_or [] k.images (cells_on pages new) (b.long ∙ sym long) (λ i lt.
      let within : i < pages = omega (arith, lt, b.long) in
      let number : 16 + i - 16 ≡ i = omega arith in
      let there : image k (16 + i) ≡ page_cells new (16 + i) = elim (cases_lt (16 + i) low) [
        | inl is ↦ b.below (16 + i) (omega arith) is (omega (arith, within))
        | inr no_ ↦ b.above (16 + i) (omega arith) (omega (arith, no_)) (omega (arith, within)) ∙ sym (others (16 + i) (omega arith) (omega (arith, within)) (omega (arith, no_)) tt)
      ] in
      ap (λ (n : ℕ). get_or k.images n []) (sym number) ∙ there ∙ sym (get_or-map-range_with_len (page_cells new) 16 pages i (16 + i) [] within refl)))

  run_is : (from low : ℕ) (k : Kept) (ws : List PageWrite) → 16 ≤ low → RisesFrom low ws → AllByRecursion (λ w. w.page < 16 + pages) ws → AreChanged c old new from ws → Others low ws → IsBetween low k
      → run c from k ws ≡ record k { images = cells_on pages new }
  run_is from low k [] least rises within changed others b = all_new low k b others
  run_is from low k (w ∷ ws) least rises within changed others b =
      let p : ℕ = w.page in
      let was : image k p ≡ page_cells old p = b.above p (omega (arith, least, rises.0)) rises.0 within.0 in
      let next : Kept = with_image k p (c from (image k p)) in
      let here : image next p ≡ page_cells new p = at_page k pages p (omega (arith, least, rises.0)) within.0 b.long (c from (image k p)) ∙ ap (c from) was ∙ sym changed.0 in
      let then : IsBetween (suc p) next = record {
        long = length-set k.images (p - 16) (c from (image k p)) ∙ b.long;
        below = λ q low_q lt in_. elim (cases_eq q p) [
          | inl is ↦ ap (image next) is ∙ here ∙ ap (page_cells new) (sym is)
          | inr apart ↦ other_page k p q (omega (arith, least, rises.0)) low_q (λ e. apart (sym e)) (c from (image k p)) ∙ elim (cases_lt q low) [
            | inl less ↦ b.below q low_q less in_
            | inr no_ ↦ b.above q low_q (omega (arith, no_)) in_
                ∙ sym (others q low_q in_ (omega (arith, no_)) (λ e. apart (sym e), none_below (suc p) q ws rises.2 (omega (arith, lt))))
          ]
        ];
        above = λ q low_q le in_. other_page k p q (omega (arith, least, rises.0)) low_q (λ e. absurd (omega (arith, e, le))) (c from (image k p)) ∙ b.above q low_q (omega (arith, le, rises.0)) in_;
      } in
      run_is (from + 16) (suc p) next ws (omega (arith, least, rises.0)) rises.2 within.1 changed.1
      (λ q low_q in_ le none. others q low_q in_ (omega (arith, le, rises.0)) (λ e. absurd (omega (arith, e, le)), none)) then

-- what a stop leaves, and what a whole batch leaves, are such changes
abbrev stop_change : ℕ → Change
stop_change mask from cells = kept_cells mask from (mark_after cells) cells

abbrev whole_change : Change
whole_change from cells = written_cells cells

stop_runs : (mask from : ℕ) (k : Kept) (ws : List PageWrite) → batch_partly_written mask from k (page_writes ws) ≡ run (stop_change mask) from k ws
stop_runs mask from k [] = refl
stop_runs mask from k (w ∷ ws) = stop_runs mask (from + 16) (with_image k w.page (stop_change mask from (image k w.page))) ws

whole_runs : (from : ℕ) (k : Kept) (ws : List PageWrite) → batch_written k (page_writes ws) ≡ run whole_change from k ws
whole_runs from k [] = refl
whole_runs from k (w ∷ ws) = whole_runs (from + 16) (with_image k w.page (written_cells (image k w.page))) ws

kept_changes : (mask : ℕ) (old new : Image) (from : ℕ) (ws : List PageWrite) → AreKept old new mask from ws → AreChanged (stop_change mask) old new from ws
kept_changes mask old new from [] kept_ = tt
kept_changes mask old new from (w ∷ ws) kept_ = (kept_.0, kept_changes mask old new (from + 16) ws kept_.1)

written_changes : (old new : Image) (from : ℕ) (ws : List PageWrite) → AllByRecursion (λ w. page_cells new w.page ≡ written_cells (page_cells old w.page)) ws → AreChanged whole_change old new from ws
written_changes old new from [] all = tt
written_changes old new from (w ∷ ws) all = (all.0, written_changes old new (from + 16) ws all.1)

-- a sector before the pages or behind them is outside
out_of_all : (at low : ℕ) (ws : List PageWrite) → (at < 64) ⊎ (33088 ≤ at) → RisesFrom low ws → AllByRecursion (λ w. IsOutside w.page at) ws
out_of_all at low [] out rises = tt
out_of_all at low (w ∷ ws) out rises = (
  elim out [ inl lt ↦ inl (omega (arith, lt)) | inr le ↦ inr (omega (arith, le, rises.1)) ],
  out_of_all at (suc w.page) ws out rises.2,
)

-- the sectors of another page are outside
apart_outside : (q k : ℕ) (ws : List PageWrite) → k < 16 → IsNone q ws → AllByRecursion (λ w. IsOutside w.page (place q + k)) ws
apart_outside q k [] lt none = tt
apart_outside q k (w ∷ ws) lt none = (
  elim (cases_lt q w.page) [
    | inl below ↦ inl (omega (arith, lt, below))
    | inr no_ ↦ elim (cases_eq w.page q) [ inl is ↦ absurd (none.0 is) | inr apart ↦ inr (omega (arith, lt, no_, apart)) ]
  ],
  apart_outside q k ws lt none.1,
)

module _ (pages replica : ℕ) (disk : Image) (h : IsKeeping pages replica disk) where
  -- an image that differs in these pages alone, whose cells have changed so
  module _ (c : Change) (from : ℕ) (ws : List PageWrite) (rises : RisesFrom 16 ws) (within : AllByRecursion (λ w. w.page < 16 + pages) ws) (now : Image)
      (same : (at : ℕ) → AllByRecursion (λ w. IsOutside w.page at) ws → now at ≡ disk at) (changed : AreChanged c disk now from ws) where
    low_same : (at : ℕ) → at < 64 → now at ≡ disk at
    low_same at lt = same at (out_of_all at 16 ws (inl lt) rises)

    log_same : (at : ℕ) → IsLogSector at → or_zeros (now at) ≡ or_zeros (disk at)
    log_same at is = ap or_zeros (same at (out_of_all at 16 ws (inr is.0) rises))

    has : HasLog now (master_on disk).cut (master_on disk).incarnation (own_log disk)
    has = record {
      is = region_alone disk now (master_on disk).cut (master_on disk).incarnation (own_log disk) h.log.is log_same;
      greatest = λ at is. omega (arith, h.log.greatest at is, ap (λ bytes. (header_of bytes).head.incarnation) (log_same at is));
    }

    cells_are : run c from (kept_on pages disk) ws ≡ record (kept_on pages disk) { images = cells_on pages now }
    cells_are = run_is pages c disk now from 16 (kept_on pages disk) ws (omega arith) rises within changed
        (λ q low_q in_ le none. same_cells disk now q (λ k lt. same (place q + k) (apart_outside q k ws lt none)))
        (record {
          long = length-map-range_with_len (page_cells disk) 16 pages;
          below = λ q low_q lt in_. absurd (omega (arith, low_q, lt));
          above = λ q low_q le in_. get_or-map-range_with_len (page_cells disk) 16 pages (q - 16) q [] (omega (arith, low_q, in_)) (let e : 16 + (q - 16) ≡ q = omega (arith, low_q) in e);
        })

    pub pages_say : Says pages replica now (run c from (kept_on pages disk) ws)
    pages_say = subst (Says pages replica now) (sym cells_are)
        (says_so pages replica now (master_on disk) h.fits (ap or_zeros (low_same 0 (omega arith)) ∙ h.spelled) (own_log disk) has h.few h.pages_named h.replica_named h.least
        (suspects_on disk) (suspects_stay disk now (λ x low high. ap or_zeros (low_same x high)))
        (rows_stay disk now (suspects_on disk) (λ x low high. ap or_zeros (low_same x high)) h.suspects)
        (cells_on pages now) refl)

  -- the first of these pages, where the mask keeps some of their sectors
  stopped_pages : (mask n : ℕ) (ws : List PageWrite) → RisesFrom 16 ws → AllByRecursion IsWhole ws → AllByRecursion (λ w. w.page < 16 + pages) ws
      → Says pages replica (put_all disk (kept mask 0 (sectors_written disk (take n ws)))) (batch_partly_written mask 0 (kept_on pages disk) (page_writes (take n ws)))
  stopped_pages mask n ws rises whole within =
      let first = take n ws in
      let now = put_all disk (kept mask 0 (sectors_written disk first)) in
      let up = rises_first 16 n ws rises in
      let are = all_take IsWhole n ws whole in
      subst (Says pages replica now) (sym (stop_runs mask 0 (kept_on pages disk) first))
      (pages_say (stop_change mask) 0 first up (all_take (λ w. w.page < 16 + pages) n ws within) now (λ at out. others_kept disk first mask 0 at are out)
      (kept_changes mask disk now 0 first (pages_kept disk disk mask 0 16 first up are (λ at le. refl))))

  whole_pages : (ws : List PageWrite) → RisesFrom 16 ws → AllByRecursion IsWhole ws → AllByRecursion (λ w. w.page < 16 + pages) ws
      → Says pages replica (put_all disk (sectors_written disk ws)) (batch_written (kept_on pages disk) (page_writes ws))
  whole_pages ws rises whole within =
      let now = put_all disk (sectors_written disk ws) in
      subst (Says pages replica now) (sym (whole_runs 0 (kept_on pages disk) ws))
      (pages_say whole_change 0 ws rises within now (λ at out. outside_stays disk disk ws at whole out)
      (written_changes disk now 0 ws (all_cells disk now ws whole (pages_written disk disk 16 ws rises whole))))

  -- what memory has of the rest stays
  pub record PagesKeep (now : Image) : Type 0 where
    pub master : master_on now ≡ master_on disk
    pub suspects : suspects_on now ≡ suspects_on disk
    pub store : store_on now ≡ store_on disk
    pub current : (t : StoreView) → IsCurrent disk t → IsCurrent now t

  pub pages_keep : (ws : List PageWrite) → RisesFrom 16 ws → AllByRecursion IsWhole ws → PagesKeep (put_all disk (sectors_written disk ws))
  pages_keep ws rises whole =
      let now = put_all disk (sectors_written disk ws) in
      let low : (at : ℕ) → at < 64 → now at ≡ disk at = λ at lt. outside_stays disk disk ws at whole (out_of_all at 16 ws (inl lt) rises) in
      let log : (at : ℕ) → IsLogSector at → or_zeros (now at) ≡ or_zeros (disk at) = λ at is. ap or_zeros (outside_stays disk disk ws at whole (out_of_all at 16 ws (inr is.0) rises)) in
      let spelled : or_zeros (now 0) ≡ spelling (master_on disk) = ap or_zeros (low 0 (omega arith)) ∙ h.spelled in
      let there : HasLog now (master_on disk).cut (master_on disk).incarnation (own_log disk) = record {
        is = region_alone disk now (master_on disk).cut (master_on disk).incarnation (own_log disk) h.log.is log;
        greatest = λ at is. omega (arith, h.log.greatest at is, ap (λ bytes. (header_of bytes).head.incarnation) (log at is));
      } in
      let made : Log → SectorMaster → StoreView = λ l m. record { log = l; cut = m.cut; incarnation = m.incarnation; is_closed = false } in
      let master = master_is pages replica now (master_on disk) h.fits spelled in
      record {
        master = master;
        suspects = suspects_stay disk now (λ x from to. ap or_zeros (low x to));
        store = ap (λ (l : Log). made l (master_on now)) (log_is pages replica now (master_on disk) h.fits spelled (own_log disk) there) ∙ ap (made (own_log disk)) master;
        current = λ t cur. current_alone disk now t cur log;
      }

  pub pages_mean : (ws : List PageWrite) → RisesFrom 16 ws → AllByRecursion IsWhole ws → AllByRecursion (λ w. w.page < 16 + pages) ws → Mean pages replica disk (pieces disk ws) (page_writes ws)
  pages_mean ws rises whole within = record {
    count = length-map ws _ ∙ sym (length-map ws _);
    whole = subst (λ (vs : List SectorWrite). Says pages replica (put_all disk vs) (batch_written (kept_on pages disk) (page_writes ws))) (sym (sectors_all disk ws)) (whole_pages ws rises whole within);
    stopped = λ w mask lt.
        subst (λ (b : List Write). Says pages replica (put_all disk (kept mask 0 (sectors_in (take (w + 1) (pieces disk ws))))) (batch_partly_written mask 0 (kept_on pages disk) b)) (sym (writes_first (w + 1) ws))
        (subst (λ (vs : List SectorWrite). Says pages replica (put_all disk (kept mask 0 vs)) (batch_partly_written mask 0 (kept_on pages disk) (page_writes (take (w + 1) ws)))) (sym (sectors_first disk (w + 1) ws))
        (stopped_pages mask (w + 1) ws rises whole within));
  }
