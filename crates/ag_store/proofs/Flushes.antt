-- A store whose dirty pages were written, with the least LSN to which a stripe was redone in its master.
use Rattle.std.proofs.Common.{◌≡◌, ◌+◌, ◌-◌, ◌≤◌, ◌<◌, ℕ, zero, suc, min, List, [], ◌∷◌, length, get_or, map, Bool, true, false, leb, ltb, IsTrue, Some, None, refl, sym, ap, ◌∙◌, subst, arith, inl, inr}
use Rattle.std.specs.Prelude.{Option, replicate, if◌then◌else◌}
use Rattle.std.specs.List.{AllByRecursion, range_with_len}
use Rattle.std.proofs.lemmas.Bool.{and_parts, cases_Bool, cases_lt, leb-true, ltb-true}
use Rattle.ag_model.specs.declared.answer.Cell.{Cell}
use Rattle.ag_model.specs.declared.record.Log.{Log}
use Rattle.ag_model.specs.declared.value.PageValue.{PageValue}
use Rattle.ag_model.specs.Cells.{written_cells}
use Rattle.ag_model.specs.Page.{value}
use Rattle.ag_model.specs.Prefixes.{end_of, IsBlockEnd}
use Rattle.ag_model.specs.Proper.{IsProper}
use Rattle.ag_model.specs.Rows.{page_numbers, stripe_of, touches}
use Rattle.ag_outside.specs.Disks.{Content, Image, Only, or_zeros}
use Rattle.ag_outside.specs.Scripts.{ScriptedView}
use Rattle.ag_outside.specs.Shown.{reads_of, holds_of}
use Rattle.ag_master.specs.declared.master.Master.{Master}
use Rattle.ag_master.specs.Spelling.{fields}
use Rattle.ag_logblock.specs.Fitting.{header_of}
use Rattle.ag_logstore.specs.Stored.{log_end, IsLogSector}
use Rattle.ag_logstore.specs.Stores.{StoreView as LogView}
use Rattle.ag_logstore.proofs.Chains.{region_alone, current_alone}
use Rattle.ag_pagestore.specs.Homes.{told_images}
use Rattle.ag_pagestore.specs.Places.{page_cells}
use Rattle.ag_rules.specs.Replica.{least}
use Rattle.ag_stripe.specs.Ahead.{IsAhead}
use Rattle.ag_stripe.specs.Answers.{HasNoImage}
use Rattle.ag_stripe.specs.Spelled.{AreSpelled}
use Rattle.ag_stripe.specs.Known.{Known, Told, in_home, known_by}
use Rattle.ag_stripe.specs.Known.Known.{Value}
use Rattle.ag_kept.specs.Ending.{IsSettled}
use Rattle.ag_kept.specs.Kept.{Kept, SamePages, kept_on, master_on}
use Rattle.ag_kept.specs.Standing.{HasLog, IsAtHome, IsHome, IsMemory}
use Rattle.ag_kept.specs.Starting.{own_log}
use Rattle.ag_kept.specs.Saving.{freed}
use Rattle.ag_kept.proofs.Homes.{home_is, kept_is}
use Rattle.ag_pages.specs.Views.{PagesView, applied_of, is_dirty, is_page, known_of, slot}
use Rattle.ag_store.specs.Flushing.{HaveImages, WrotePages}
use Rattle.ag_store.specs.Images.{IsImageOf}
use Rattle.ag_store.specs.Standing.{AreAtEnds, AreImages, AreValues, IsDataPage, IsLoaded, IsStore, told_on}
use Rattle.ag_store.specs.Views.{MemoryView, StoreView, cells_on, flushed_cells, flushed_store, store_on}
use Rattle.ag_store.proofs.Asked.{known_at, page_is, stands_low, value_now}
use Rattle.ag_store.proofs.Flags.{map-one, no-flag}
use Rattle.ag_store.proofs.Pages.{cells-same, home-by, home-same}
use Rattle.ag_store.proofs.Ranges.{value_in_range, value_named}
use Rattle.ag_store.proofs.Spelled.{log-fits, records-spelled}
use Rattle.ag_store.proofs.Stores.{image_at, loaded_of, proper_of, stripe-low}
use Rattle.ag_store.proofs.Redone.{told-is}
use Rattle.ag_store.proofs.Touching.{none-back, none-here}

-- ---- the least of some numbers

pub least_low : (xs : List ℕ) (i : ℕ) → i < length xs → least xs ≤ get_or xs i 0
least_low [] i lt = absurd (omega arith)
least_low (x ∷ []) zero lt = omega arith
least_low (x ∷ []) (suc i) lt = absurd (omega arith)
least_low (x ∷ y ∷ ys) zero lt = omega arith
least_low (x ∷ y ∷ ys) (suc i) lt = (let low = least_low (y ∷ ys) i (omega arith) in omega (arith, low))

least_is : (P : ℕ → Type 0) (x : ℕ) (xs : List ℕ) → AllByRecursion P (x ∷ xs) → P (least (x ∷ xs))
least_is P x [] p = p.0
least_is P x (y ∷ ys) p = elim (cases_lt x (least (y ∷ ys))) [
  | inl lt ↦ (let e : x ≡ min x (least (y ∷ ys)) = omega arith in subst P e p.0)
  | inr le ↦ (let e : least (y ∷ ys) ≡ min x (least (y ∷ ys)) = omega arith in subst P e (least_is P y ys p.1))
]

pub least_one : (P : ℕ → Type 0) (xs : List ℕ) → length xs ≡ 16 → AllByRecursion P xs → P (least xs)
least_one P [] long p = absurd (omega arith)
least_one P (x ∷ xs) long p = least_is P x xs p

-- ---- an image whose master and log stay

module _ (image now : Image) (h : IsHome image) (first : now 0 ≡ image 0) (logs : (at : ℕ) → IsLogSector at → now at ≡ image at) where
  other : (at : ℕ) → IsLogSector at → or_zeros (now at) ≡ or_zeros (image at)
  other at is = ap or_zeros (logs at is)

  left_master : master_on now ≡ master_on image
  left_master = ap (λ (c : Content). fields (or_zeros c)) first

  has_log : HasLog now (master_on image).cut (master_on image).incarnation (own_log image)
  has_log = record {
    is = region_alone image now (master_on image).cut (master_on image).incarnation (own_log image) h.log.is other;
    greatest = λ at is. omega (arith, h.log.greatest at is, ap (λ bytes. (header_of bytes).head.incarnation) (other at is));
  }

  pub left_home : IsHome now
  left_home = home_is now (master_on image) (own_log image) left_master h.plain h.fits (ap or_zeros first ∙ h.spelled) h.least has_log

  pub left_kept : (loaded : Bool) → kept_on now loaded ≡ kept_on image loaded
  left_kept loaded = kept_is now (master_on image) (own_log image) left_master h.plain h.fits (ap or_zeros first ∙ h.spelled) h.least has_log loaded

module _ {D : Type 0} (keeps : D → Bool) (reads : D → Image) (may_hold : D → ℕ → Content → Type 0) (disk mid : ScriptedView D) (home : IsAtHome keeps reads disk)
    (first : reads_of reads mid 0 ≡ reads_of reads disk 0) (logs : (at : ℕ) → IsLogSector at → reads_of reads mid at ≡ reads_of reads disk at) where
  pub written_home : IsSettled keeps disk mid → IsAtHome keeps reads mid
  written_home settled = record {
    modelled = subst IsTrue (sym settled.keeps_same) home.modelled;
    unsynced = settled.unsynced;
    home = left_home (reads_of reads disk) (reads_of reads mid) home.home first logs;
  }

  pub written_memory : (s : LogView) → Only (reads_of reads mid) (holds_of keeps may_hold mid) → IsMemory keeps reads may_hold disk s → IsMemory keeps reads may_hold mid s
  written_memory s only is =
      let master : master_on (reads_of reads mid) ≡ master_on (reads_of reads disk) = left_master (reads_of reads disk) (reads_of reads mid) home.home first logs in
      record {
        cut = is.cut ∙ sym (ap (λ (x : Master). x.cut) master);
        incarnation = is.incarnation ∙ sym (ap (λ (x : Master). x.incarnation) master);
        is_open = is.is_open;
        ready = record {
          least = is.ready.least;
          most = is.ready.most;
          current = λ k. current_alone (reads_of reads disk) (reads_of reads mid) s (is.ready.current home.modelled) (other (reads_of reads disk) (reads_of reads mid) home.home first logs);
          synced = λ k. only;
        };
      }

-- ---- images of pages that were written, and of those that weren't

image_written : (pages : ℕ) (log : Log) (redo applied page : ℕ) (k : Known) → applied ≤ end_of log → redo ≤ applied → k ≡ Value (value pages log.records applied page) → IsImageOf pages log redo applied false page k
image_written pages log redo applied page k high le e = record {
  lsn = applied;
  high = high;
  value = e;
  redone = none-back (touches pages page) applied applied redo log.records le (none-here (touches pages page) applied log.records);
  clean = λ d. none-here (touches pages page) applied log.records;
}

image_left : (pages : ℕ) (log : Log) (before redo applied : ℕ) (dirty : Bool) (page : ℕ) (k : Known) → redo ≤ applied → dirty ≡ false → IsImageOf pages log before applied dirty page k → IsImageOf pages log redo applied false page k
image_left pages log before redo applied dirty page k le d i = record {
  lsn = i.lsn;
  high = i.high;
  value = i.value;
  redone = none-back (touches pages page) i.lsn applied redo log.records le (i.clean d);
  clean = λ c. i.clean d;
}

known_told : (a b : Told) (page : ℕ) (o : Option PageValue) → in_home a page ≡ in_home b page → known_by a page o ≡ known_by b page o
known_told a b page (Some v) e = refl
known_told a b page None e = e

-- the cells of all pages, where some were written
pub cells_flushed : (d : ℕ → Bool) (f g : ℕ → List Cell) (from n : ℕ) → ((k : ℕ) → from ≤ k → k < from + n → f k ≡ (if d k then written_cells (g k) else g k))
    → map f (range_with_len from n) ≡ flushed_cells (map d (range_with_len from n)) (map g (range_with_len from n))
cells_flushed d f g from zero is = refl
cells_flushed d f g from (suc n) is =
    let others = cells_flushed d f g (from + 1) n (λ k low high. is k (omega arith) (omega arith)) in
    ap (λ (c : List Cell). c ∷ map f (range_with_len (from + 1) n)) (is from (omega arith) (omega arith))
    ∙ ap (λ (cs : List (List Cell)). (if d from then written_cells (g from) else g from) ∷ cs) others

-- ---- the store

module _ {D : Type 0} (size : D → ℕ) (keeps : D → Bool) (reads : D → Image) (may_hold : D → ℕ → Content → Type 0) (disk : ScriptedView D) (pages : ℕ) (memory : Option MemoryView) (sound : Bool) (m : MemoryView)
    (st : IsStore size keeps reads may_hold disk pages memory sound) (is_sound : sound ≡ true) (has : memory ≡ Some m) where
  abbrev image : Image
  image = reads_of reads disk

  abbrev kept : Kept
  kept = kept_on (reads_of reads disk) true

  abbrev lsn : ℕ
  lsn = least m.pages.applied

  loaded : IsLoaded keeps reads may_hold disk pages m
  loaded = loaded_of size keeps reads may_hold disk pages memory sound m st is_sound has

  least_stands : (stripe : ℕ) → stripe < 16 → lsn ≤ applied_of m.pages stripe
  least_stands stripe lt = least_low m.pages.applied stripe (omega (arith, lt, loaded.ends.sixteen))

  pub least_end : IsBlockEnd kept.log lsn
  least_end = (least_one (λ n. IsBlockEnd kept.log n × (kept.redo ≤ n)) m.pages.applied loaded.ends.sixteen loaded.ends.ends).0

  each_from : (kept_log : Log) (low : ℕ) (ns : List ℕ) → ((i : ℕ) → i < length ns → low ≤ get_or ns i 0) → AllByRecursion (λ n. IsBlockEnd kept_log n × (kept.redo ≤ n)) ns → AllByRecursion (λ n. IsBlockEnd kept_log n × (low ≤ n)) ns
  each_from log low [] is p = tt
  each_from log low (n ∷ ns) is p = ((p.0.0, is 0 (omega arith)), each_from log low ns (λ i lt. is (suc i) (omega arith)) p.1)

  -- the disk with the images, and the one with the master too; and the pages in memory
  module _ (mid new : ScriptedView D) (v : PagesView) (same_applied : v.applied ≡ m.pages.applied) (clean : (page : ℕ) → IsDataPage pages page → is_dirty v page ≡ false)
      (known : (page : ℕ) → IsDataPage pages page → known_of (told_on (reads_of reads mid)) v page ≡ known_of (told_on (reads_of reads disk)) m.pages page)
      (wrote : (page : ℕ) → IsDataPage pages page → is_dirty m.pages page ≡ true → in_home (told_on (reads_of reads mid)) page ≡ known_of (told_on (reads_of reads disk)) m.pages page)
      (left : (page : ℕ) → IsDataPage pages page → is_dirty m.pages page ≡ false → in_home (told_on (reads_of reads mid)) page ≡ in_home (told_on (reads_of reads disk)) page)
      (same_kept : (up : Bool) → kept_on (reads_of reads mid) up ≡ kept_on (reads_of reads disk) up)
      (saved : (up : Bool) → kept_on (reads_of reads new) up ≡ record (kept_on (reads_of reads mid) up) { redo = least m.pages.applied })
      (same_pages : SamePages (reads_of reads mid) (reads_of reads new)) where
    abbrev after : MemoryView
    after = record { log = m.log; pages = v; redo = least m.pages.applied }

    kept_now : kept_on (reads_of reads new) true ≡ record kept { redo = lsn }
    kept_now = saved true ∙ ap (λ (k : Kept). record k { redo = lsn }) (same_kept true)

    home_now : (page : ℕ) → IsDataPage pages page → in_home (told_on (reads_of reads new)) page ≡ in_home (told_on (reads_of reads mid)) page
    home_now page is = home-same (reads_of reads mid) (reads_of reads new) page same_pages is.0 (omega (arith, is.1, st.high))

    applied_now : (stripe : ℕ) → applied_of v stripe ≡ applied_of m.pages stripe
    applied_now stripe = ap (λ (ns : List ℕ). get_or ns stripe 0) same_applied

    image_now : (page : ℕ) → IsDataPage pages page → IsImageOf pages kept.log lsn (applied_of m.pages (stripe_of page)) false page (in_home (told_on (reads_of reads new)) page)
    image_now page is =
        let le = least_stands (stripe_of page) (stripe-low page) in
        elim (cases_Bool (is_dirty m.pages page)) [
          | inl dirty ↦
              image_written pages kept.log lsn (applied_of m.pages (stripe_of page)) page (in_home (told_on (reads_of reads new)) page)
              (stands_low size keeps reads may_hold disk pages memory sound m st is_sound has page) le
              (home_now page is ∙ wrote page is dirty ∙ known_at size keeps reads may_hold disk pages memory sound m st is_sound has page is)
          | inr same ↦
              subst (λ (k : Known). IsImageOf pages kept.log lsn (applied_of m.pages (stripe_of page)) false page k) (sym (home_now page is ∙ left page is same))
              (image_left pages kept.log kept.redo lsn (applied_of m.pages (stripe_of page)) (is_dirty m.pages page) page (in_home (told_on image) page) le same (image_at size keeps reads may_hold disk pages memory sound m st is_sound has page is))
        ]

    flags_now : map (is_dirty v) (page_numbers pages) ≡ replicate pages false
    flags_now = map-one (is_dirty v) false 16 pages (λ k low high. clean k (low, high))

    images_now : AreImages pages (reads_of reads new) (record kept { redo = lsn }) v.applied (map (is_dirty v) (page_numbers pages))
    images_now page is =
        subst (λ (ds : List Bool). IsImageOf pages kept.log lsn (applied_of v (stripe_of page)) (get_or ds (page - 16) false) page (in_home (told_on (reads_of reads new)) page)) (sym flags_now)
        (subst (λ (b : Bool). IsImageOf pages kept.log lsn (applied_of v (stripe_of page)) b page (in_home (told_on (reads_of reads new)) page)) (sym (no-flag pages page is))
        (subst (λ (n : ℕ). IsImageOf pages kept.log lsn n false page (in_home (told_on (reads_of reads new)) page)) (sym (applied_now (stripe_of page))) (image_now page is)))

    values_now : AreValues pages (reads_of reads new) (record kept { redo = lsn }) v
    values_now page is =
        known_told (told_on (reads_of reads new)) (told_on (reads_of reads mid)) page (slot v page).value (home_now page is)
        ∙ known page is ∙ known_at size keeps reads may_hold disk pages memory sound m st is_sound has page is
        ∙ ap (λ (n : ℕ). Value (value pages kept.log.records n page)) (sym (applied_now (stripe_of page)))

    ends_now : AreAtEnds (record kept { redo = lsn }) v.applied
    ends_now = subst (λ (ns : List ℕ). AreAtEnds (record kept { redo = lsn }) ns) (sym same_applied) (record {
      sixteen = loaded.ends.sixteen;
      ends = each_from kept.log lsn m.pages.applied (λ i lt. least_low m.pages.applied i lt) loaded.ends.ends;
    })

    pub after_flush : log_end ≤ size new.disk → v.count ≡ pages → IsAtHome keeps reads new → IsMemory keeps reads may_hold new m.log → IsStore size keeps reads may_hold new pages (Some (record { log = m.log; pages = v; redo = least m.pages.applied })) sound
    after_flush room count home log = record {
      room = room;
      low = st.low;
      high = st.high;
      stands = λ e. home;
      proper = λ e. subst (λ (k : Kept). IsProper pages k.log) (sym kept_now) (proper_of size keeps reads may_hold disk pages memory sound m st is_sound has);
      redo = λ e. subst (λ (k : Kept). IsBlockEnd k.log k.redo) (sym kept_now) least_end;
      images = λ e. subst (λ (k : Kept). AreImages pages (reads_of reads new) k v.applied (map (is_dirty v) (page_numbers pages))) (sym kept_now) images_now;
      loaded = λ e. record {
        log = log;
        count = count;
        redo = sym (ap (λ (k : Kept). k.redo) kept_now);
        ends = subst (λ (k : Kept). AreAtEnds k v.applied) (sym kept_now) ends_now;
        values = subst (λ (k : Kept). AreValues pages (reads_of reads new) k v) (sym kept_now) values_now;
      };
    }

    -- what is seen of the store then
    pub flushed_view : ((page : ℕ) → IsDataPage pages page → page_cells (reads_of reads mid) page ≡ (if is_dirty m.pages page then written_cells (page_cells (reads_of reads disk) page) else page_cells (reads_of reads disk) page))
        → (before later : ℕ) → store_on (reads_of reads new) pages (Some (record { log = m.log; pages = v; redo = least m.pages.applied })) sound later
        ≡ record (flushed_store (store_on (reads_of reads disk) pages memory sound before)) { faults = later }
    flushed_view cells before later =
        let base : Kept → List (List Cell) → List ℕ → List Bool → StoreView = λ k c a d. record { kept = k; pages = pages; cells = c; applied = a; dirty = d; sound = sound; faults = later } in
        let wrote_cells : cells_on (reads_of reads new) pages ≡ flushed_cells (map (is_dirty m.pages) (page_numbers pages)) (cells_on image pages) =
        cells-same (reads_of reads mid) (reads_of reads new) pages same_pages st.high
        ∙ cells_flushed (is_dirty m.pages) (page_cells (reads_of reads mid)) (page_cells image) 16 pages (λ k low high. cells k (low, high)) in
        ap (λ (k : Kept). base k (cells_on (reads_of reads new) pages) v.applied (map (is_dirty v) (page_numbers pages))) kept_now
        ∙ ap (λ (c : List (List Cell)). base (record kept { redo = lsn }) c v.applied (map (is_dirty v) (page_numbers pages))) wrote_cells
        ∙ ap (λ (a : List ℕ). base (record kept { redo = lsn }) (flushed_cells (map (is_dirty m.pages) (page_numbers pages)) (cells_on image pages)) a (map (is_dirty v) (page_numbers pages))) same_applied
        ∙ ap (λ (d : List Bool). base (record kept { redo = lsn }) (flushed_cells (map (is_dirty m.pages) (page_numbers pages)) (cells_on image pages)) m.pages.applied d) flags_now
        ∙ sym (ap (λ (o : Option MemoryView). record (flushed_store (store_on (reads_of reads disk) pages o sound before)) { faults = later }) has)

  -- each page has an image
  pub have_image : ((pages applied page : ℕ) (k : Known) (log : Log) → IsProper pages log → AreSpelled log.records → IsAhead pages log applied page k → HasNoImage k → ⊥)
      → (page : ℕ) → IsDataPage pages page → HasNoImage (known_of (told_on (reads_of reads disk)) m.pages page) → ⊥
  have_image law page is none =
      let home = st.stands is_sound in
      law pages (applied_of m.pages (stripe_of page)) page (known_of (told_on image) m.pages page) kept.log
      (proper_of size keeps reads may_hold disk pages memory sound m st is_sound has)
      (records-spelled kept.log.records (log-fits image (master_on image).cut (master_on image).incarnation kept.log home.home.log.is))
      (record {
        lsn = applied_of m.pages (stripe_of page);
        low = omega arith;
        high = stands_low size keeps reads may_hold disk pages memory sound m st is_sound has page;
        value = known_at size keeps reads may_hold disk pages memory sound m st is_sound has page is;
      }) none

  -- one of the data pages in memory
  pub page_of_own : (page : ℕ) → is_page m.pages page ≡ true → IsDataPage pages page
  page_of_own page is_own =
      let parts = and_parts (leb 16 page) (ltb page (16 + m.pages.count)) is_own in
      (leb-true 16 page parts.0, (let lt = ltb-true page (16 + m.pages.count) parts.1 in omega (arith, lt, loaded.count)))

-- ---- pages whose images are the same

page_place : (v : PagesView) → v.count ≤ 2048 → (page : ℕ) → is_page v page ≡ true → (16 ≤ page) × (page < 2064)
page_place v few page is_own =
    let parts = and_parts (leb 16 page) (ltb page (16 + v.count)) is_own in
    (leb-true 16 page parts.0, (let lt = ltb-true page (16 + v.count) parts.1 in omega (arith, lt, few)))

pub still_images : (old now : Image) (v : PagesView) → v.count ≤ 2048 → SamePages old now → HaveImages old v → HaveImages now v
still_images old now v few same have page is_own none =
    let place = page_place v few page is_own in
    have page is_own (subst HasNoImage (known_told (told_on now) (told_on old) page (slot v page).value (home-same old now page same place.0 place.1)) none)

-- ---- what stays where pages were written

module _ {D : Type 0} (keeps : D → Bool) (reads : D → Image) (old new : ScriptedView D) (before after : PagesView) where
  pub wrote_freed : (armed : ScriptedView D) → armed ≡ freed old → WrotePages keeps reads armed new before after → WrotePages keeps reads old new before after
  wrote_freed armed is w =
      let f : WrotePages keeps reads (freed old) new before after = subst (λ (s : ScriptedView D). WrotePages keeps reads s new before after) is w in
      record { clean = f.clean; known = f.known; cells = f.cells; images = f.images; other_images = f.other_images; others = f.others }

  module _ (f : WrotePages keeps reads old new before after) (few : before.count ≤ 2048) where
    pub first_stays : reads_of reads new 0 ≡ reads_of reads old 0
    first_stays = f.others 0 (λ page is_own dirty. inl (omega arith))

    pub logs_stay : (at : ℕ) → IsLogSector at → reads_of reads new at ≡ reads_of reads old at
    logs_stay at in_log = f.others at (λ page is_own dirty. (let b = page_place before few page is_own in inr (omega (arith, b.1, in_log.0))))

module _ {D : Type 0} (size : D → ℕ) (keeps : D → Bool) (reads : D → Image) (may_hold : D → ℕ → Content → Type 0) (disk : ScriptedView D) (pages : ℕ) (memory : Option MemoryView) (sound : Bool) (m : MemoryView)
    (st : IsStore size keeps reads may_hold disk pages memory sound) (is_sound : sound ≡ true) (has : memory ≡ Some m)
    (mid : ScriptedView D) (v : PagesView) (after : IsAtHome keeps reads mid) (f : WrotePages keeps reads disk mid m.pages v) where
  home : IsAtHome keeps reads disk
  home = st.stands is_sound

  told : told_images (keeps disk.disk) (reads_of reads disk) ≡ told_on (reads_of reads disk)
  told = told-is (keeps disk.disk) (reads_of reads disk) home.modelled

  own : (page : ℕ) → IsDataPage pages page → is_page m.pages page ≡ true
  own page here = page_is size keeps reads may_hold disk pages memory sound m st is_sound has page here

  known_now : (page : ℕ) → IsDataPage pages page → known_of (told_images (keeps disk.disk) (reads_of reads disk)) m.pages page ≡ Value (value_now size keeps reads may_hold disk pages memory sound m st is_sound has page)
  known_now page here = ap (λ (t : Told). known_of t m.pages page) told ∙ known_at size keeps reads may_hold disk pages memory sound m st is_sound has page here

  pub clean_then : (page : ℕ) → IsDataPage pages page → is_dirty v page ≡ false
  clean_then page here = f.clean page (own page here)

  pub known_then : (page : ℕ) → IsDataPage pages page → known_of (told_on (reads_of reads mid)) v page ≡ known_of (told_on (reads_of reads disk)) m.pages page
  known_then page here = sym (ap (λ (t : Told). known_of t v page) (told-is (keeps mid.disk) (reads_of reads mid) after.modelled)) ∙ f.known page (own page here) ∙ ap (λ (t : Told). known_of t m.pages page) told

  pub wrote_then : (page : ℕ) → IsDataPage pages page → is_dirty m.pages page ≡ true → in_home (told_on (reads_of reads mid)) page ≡ known_of (told_on (reads_of reads disk)) m.pages page
  wrote_then page here dirty =
      let kept_log : Log = (kept_on (reads_of reads disk) true).log in
      let n : ℕ = applied_of m.pages (stripe_of page) in
      f.images page (value_now size keeps reads may_hold disk pages memory sound m st is_sound has page) (own page here) dirty (known_now page here)
      (value_named pages n page kept_log.records)
      (value_in_range pages n page kept_log (proper_of size keeps reads may_hold disk pages memory sound m st is_sound has)
      (log-fits (reads_of reads disk) (master_on (reads_of reads disk)).cut (master_on (reads_of reads disk)).incarnation kept_log home.home.log.is) (omega (arith, here.1, st.high)))
      ∙ sym (known_at size keeps reads may_hold disk pages memory sound m st is_sound has page here)

  pub left_then : (page : ℕ) → IsDataPage pages page → is_dirty m.pages page ≡ false → in_home (told_on (reads_of reads mid)) page ≡ in_home (told_on (reads_of reads disk)) page
  left_then page here clean = home-by (reads_of reads disk) (reads_of reads mid) page (f.other_images page (own page here) clean)

  pub cells_then : (page : ℕ) → IsDataPage pages page → page_cells (reads_of reads mid) page ≡ (if is_dirty m.pages page then written_cells (page_cells (reads_of reads disk) page) else page_cells (reads_of reads disk) page)
  cells_then page here = f.cells page (own page here)

  pub only_then : ((((page : ℕ) → is_page m.pages page ≡ true → is_dirty m.pages page ≡ false) → Only (reads_of reads disk) (holds_of keeps may_hold disk)) → Only (reads_of reads mid) (holds_of keeps may_hold mid)) → Only (reads_of reads mid) (holds_of keeps may_hold mid)
  only_then durable = durable (λ none. (loaded_of size keeps reads may_hold disk pages memory sound m st is_sound has).log.ready.synced home.modelled)
