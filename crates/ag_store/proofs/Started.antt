-- A store once a start came so far.
use Rattle.std.proofs.Common.{◌≡◌, ℕ, ◌+◌, ◌<◌, ◌≤◌, List, [], length, get_or, map, Bool, true, false, IsTrue, ◌||◌, Some, None, is_some, refl, sym, ap, ◌∙◌, subst}
use Rattle.std.specs.Prelude.{Option, replicate}
use Rattle.std.proofs.lemmas.List.{get_or-replicate, length-replicate}
use Rattle.ag_model.specs.declared.record.Log.{Log}
use Rattle.ag_model.specs.Page.{value}
use Rattle.ag_model.specs.Prefixes.{end_of, IsBlockEnd, IsPrefix}
use Rattle.ag_model.specs.Proper.{IsProper}
use Rattle.ag_model.specs.Rows.{page_numbers, stripe_of}
use Rattle.ag_model.proofs.Prefixes.{end_low, end_last, prefix_refl}
use Rattle.ag_outside.specs.Disks.{Content, Image}
use Rattle.ag_outside.specs.Scripts.{ScriptedView}
use Rattle.ag_outside.specs.Shown.{reads_of}
use Rattle.ag_logstore.specs.Stored.{log_end}
use Rattle.ag_logstore.specs.Stores.{StoreView as LogView}
use Rattle.ag_stripe.specs.Ahead.{IsAhead}
use Rattle.ag_stripe.specs.Known.{Known, in_home, known_by}
use Rattle.ag_stripe.specs.Known.Known.{Value}
use Rattle.ag_stripe.specs.Tables.{empty_slot}
use Rattle.ag_kept.specs.declared.reach.Reach.{Reach}
use Rattle.ag_kept.specs.declared.reach.Reach.TheVariants.{End, Stop, Fault}
use Rattle.ag_kept.specs.Ending.{IsSettled}
use Rattle.ag_kept.specs.Kept.{Kept, kept_on, started, SamePages}
use Rattle.ag_kept.specs.Standing.{IsAtHome, IsHome, IsMemory}
use Rattle.ag_kept.proofs.Homes.{reads_leave_pages}
use Rattle.ag_kept.proofs.Stores.{log_of}
use Rattle.ag_pages.specs.Views.{PagesView, applied_of, is_dirty, known_of, slot}
use Rattle.ag_store.specs.Images.{IsImageOf, is_touched_between}
use Rattle.ag_store.specs.Redoing.{ShowsSame, AreRedone}
use Rattle.ag_store.specs.Standing.{IsStore, IsDataPage, AreImages, told_on}
use Rattle.ag_store.specs.Views.{MemoryView, StoreView, store_on, cells_on, started_store, caught_up, set_where}
use Rattle.ag_store.proofs.Applying.{ends-all}
use Rattle.ag_store.proofs.Flags.{flags-set, map-one, no-flag}
use Rattle.ag_store.proofs.Growing.{images-grow}
use Rattle.ag_store.proofs.Pages.{cells-same}
use Rattle.ag_store.proofs.Stores.{redone_store, images-fallen, stripe-low}

-- a start leaves the log and the redo start
pub started-log : (k : Kept) (r : Reach) → (started k r).log ≡ k.log
started-log k End = refl
started-log k (Stop true) = refl
started-log k (Stop false) = refl
started-log k Fault = refl

pub started-redo : (k : Kept) (r : Reach) → (started k r).redo ≡ k.redo
started-redo k End = refl
started-redo k (Stop true) = refl
started-redo k (Stop false) = refl
started-redo k Fault = refl

-- memory has a log at the end of a start, and nowhere else
pub started-loaded : (k : Kept) (r : Reach) → k.loaded ≡ false → (started k r).loaded ≡ true → r ≡ End
started-loaded k End down up = refl
started-loaded k (Stop true) down up = absurd (cc (sym down ∙ up))
started-loaded k (Stop false) down up = absurd (cc (sym down ∙ up))
started-loaded k Fault down up = absurd (cc (sym down ∙ up))

-- where memory has nothing
pub none-of : (o : Option MemoryView) → is_some o ≡ false → o ≡ None
none-of None e = refl
none-of (Some m) e = absurd (cc e)

again : (s : StoreView) (r : Reach) (b : Bool) (n : ℕ) → record (started_store s r) { sound = b; faults = n } ≡ record (started_store (record s { sound = b }) r) { faults = n }
again s End b n = refl
again s (Stop whole) b n = refl
again s Fault b n = refl

unfaulted : (s : StoreView) (r : Reach) (m n : ℕ) → record (started_store (record s { faults = m }) r) { faults = n } ≡ record (started_store s r) { faults = n }
unfaulted s End m n = refl
unfaulted s (Stop whole) m n = refl
unfaulted s Fault m n = refl

-- what is seen of a start, whatever the count of faults
pub started-again : {D : Type 0} (reads : D → Image) (disk new : ScriptedView D) (pages : ℕ) (sound : Bool) (r : Reach) (memory : Option MemoryView) (before now : ℕ) → sound ≡ true
    → store_on (reads_of reads new) pages memory true 0 ≡ started_store (store_on (reads_of reads disk) pages None true 0) r
    → store_on (reads_of reads new) pages memory sound now ≡ record (started_store (store_on (reads_of reads disk) pages None sound before) r) { faults = now }
started-again reads disk new pages sound r memory before now is seen =
    ap (λ (v : StoreView). record v { sound = sound; faults = now }) seen
    ∙ again (store_on (reads_of reads disk) pages None true 0) r sound now
    ∙ sym (unfaulted (store_on (reads_of reads disk) pages None sound 0) r before now)

module _ {D : Type 0} (size : D → ℕ) (keeps : D → Bool) (reads : D → Image) (may_hold : D → ℕ → Content → Type 0) (pages : ℕ) where
  -- a store that is down, on a disk that has its pages and its log
  module _ (disk new : ScriptedView D) (st : IsStore size keeps reads may_hold disk pages None true) (home : IsAtHome keeps reads new) (same : SamePages (reads_of reads disk) (reads_of reads new)) (room : size new.disk ≡ size disk.disk)
      (log : (kept_on (reads_of reads new) true).log ≡ (kept_on (reads_of reads disk) true).log) (redo : (kept_on (reads_of reads new) true).redo ≡ (kept_on (reads_of reads disk) true).redo) where
    abbrev before : Kept
    before = kept_on (reads_of reads disk) true

    abbrev after : Kept
    after = kept_on (reads_of reads new) true

    longer : IsPrefix before.log after.log
    longer = subst (λ (l : Log). IsPrefix before.log l) (sym log) (prefix_refl pages before.log (st.proper refl))

    low : before.redo ≤ end_of before.log
    low = end_low pages before.log before.redo (st.proper refl) (st.redo refl)

    images_then : AreImages pages (reads_of reads new) after (replicate 16 before.redo) (replicate pages false)
    images_then = images-grow pages st.high (reads_of reads disk) (reads_of reads new) before after same longer redo (replicate 16 before.redo) (replicate pages false) low
        (λ stripe lt. subst (λ n. n ≤ end_of before.log) (sym (get_or-replicate 16 stripe before.redo 0 lt)) low) (st.images refl)

    pub moved_store : IsStore size keeps reads may_hold new pages None true
    moved_store = record {
      room = subst (λ n. log_end ≤ n) (sym room) st.room;
      low = st.low;
      high = st.high;
      stands = λ e. home;
      proper = λ e. subst (IsProper pages) (sym log) (st.proper refl);
      redo = λ e. subst (λ n. IsBlockEnd after.log n) (sym redo) (subst (λ (l : Log). IsBlockEnd l before.redo) (sym log) (st.redo refl));
      images = λ e. images-fallen pages (reads_of reads new) after (replicate 16 before.redo) (replicate pages false) images_then;
      loaded = λ e. tt;
    }

  -- what is seen where a start didn't come to its end
  pub seen-stopped : (disk new : ScriptedView D) (r : Reach) → pages ≤ 2048 → SamePages (reads_of reads disk) (reads_of reads new) → kept_on (reads_of reads new) false ≡ started (kept_on (reads_of reads disk) false) r → (r ≡ End → ⊥)
      → store_on (reads_of reads new) pages None true 0 ≡ started_store (store_on (reads_of reads disk) pages None true 0) r
  seen-stopped disk new End few same kept other = absurd (other refl)
  seen-stopped disk new (Stop whole) few same kept other =
      let c = cells-same (reads_of reads disk) (reads_of reads new) pages same few in
      let n = ap (λ (k : Kept). k.redo) kept ∙ started-redo (kept_on (reads_of reads disk) false) (Stop whole) in
      λ i. record { kept = kept i; pages = pages; cells = c i; applied = replicate 16 (n i); dirty = replicate pages false; sound = true; faults = 0 }
  seen-stopped disk new Fault few same kept other =
      let c = cells-same (reads_of reads disk) (reads_of reads new) pages same few in
      let n = ap (λ (k : Kept). k.redo) kept in
      λ i. record { kept = kept i; pages = pages; cells = c i; applied = replicate 16 (n i); dirty = replicate pages false; sound = true; faults = 0 }

  -- a store that is down, on a disk whose master was read
  pub read_store : (disk mid : ScriptedView D) → IsStore size keeps reads may_hold disk pages None true → reads_of reads mid ≡ reads_of reads disk → IsSettled keeps disk mid → size mid.disk ≡ size disk.disk → IsStore size keeps reads may_hold mid pages None true
  read_store disk mid st same settled room = moved_store disk mid st
      (record { modelled = subst IsTrue (sym settled.keeps_same) (st.stands refl).modelled; unsynced = settled.unsynced; home = subst IsHome (sym same) (st.stands refl).home })
      (reads_leave_pages (reads_of reads disk) (reads_of reads mid) same) room (ap (λ (i : Image). (kept_on i true).log) same) (ap (λ (i : Image). (kept_on i true).redo) same)

  -- what is seen at the end of a start
  pub seen-started : (disk new : ScriptedView D) → pages ≤ 2048 → SamePages (reads_of reads disk) (reads_of reads new) → kept_on (reads_of reads new) true ≡ started (kept_on (reads_of reads disk) false) End
      → caught_up (record (store_on (reads_of reads new) pages None true 0) { kept = kept_on (reads_of reads new) true }) ≡ started_store (store_on (reads_of reads disk) pages None true 0) End
  seen-started disk new few same kept =
      let c = cells-same (reads_of reads disk) (reads_of reads new) pages same few in
      λ i. caught_up (record { kept = kept i; pages = pages; cells = c i; applied = []; dirty = []; sound = true; faults = 0 })

  -- clean pages at the redo start, over a disk whose log memory has
  module _ (disk : ScriptedView D) (st : IsStore size keeps reads may_hold disk pages None true) (s : LogView) (is_memory : IsMemory keeps reads may_hold disk s) (redo : ℕ) (is_redo : redo ≡ (kept_on (reads_of reads disk) true).redo)
      (clean : PagesView) (count : clean.count ≡ pages) (applied : clean.applied ≡ replicate 16 redo) (empty : (page : ℕ) → slot clean page ≡ empty_slot)
      (law : (pages : ℕ) (log : Log) (redo page lsn : ℕ) → IsProper pages log → 16 ≤ page → page < 16 + pages → lsn ≤ end_of log → redo ≤ end_of log → is_touched_between pages log.records page lsn redo ≡ false → IsAhead pages log redo page (Value (value pages log.records lsn page))) where
    abbrev on : Image
    on = reads_of reads disk

    abbrev says : Kept
    says = kept_on (reads_of reads disk) true

    same_log : says.log ≡ s.log
    same_log = log_of size keeps reads may_hold disk (Some s) true s (record { room = st.room; stands = st.stands; loaded = λ e. is_memory }) refl refl

    pub clean_proper : IsProper clean.count s.log
    clean_proper = subst (λ n. IsProper n s.log) (sym count) (subst (λ (l : Log). IsProper pages l) same_log (st.proper refl))

    redo_low : redo ≤ end_of says.log
    redo_low = subst (λ n. n ≤ end_of says.log) (sym is_redo) (end_low pages says.log says.redo (st.proper refl) (st.redo refl))

    at_redo : (stripe : ℕ) → stripe < 16 → applied_of clean stripe ≡ redo
    at_redo stripe lt = ap (λ (xs : List ℕ). get_or xs stripe 0) applied ∙ get_or-replicate 16 stripe redo 0 lt

    pub clean_sixteen : length clean.applied ≡ 16
    clean_sixteen = ap (λ (xs : List ℕ). length xs) applied ∙ length-replicate 16 redo

    pub clean_within : (stripe : ℕ) → stripe < 16 → applied_of clean stripe ≤ end_of s.log
    clean_within stripe lt = subst (λ n. n ≤ end_of s.log) (sym (at_redo stripe lt)) (subst (λ (l : Log). redo ≤ end_of l) same_log redo_low)

    clean_known : (page : ℕ) → known_of (told_on on) clean page ≡ in_home (told_on on) page
    clean_known page = ap (λ s. known_by (told_on on) page s.value) (empty page)

    clean_flag : (page : ℕ) → is_dirty clean page ≡ false
    clean_flag page = ap (λ s. s.dirty) (empty page)

    image_was : (page : ℕ) → IsDataPage pages page → IsImageOf pages says.log says.redo redo false page (in_home (told_on on) page)
    image_was page is =
        subst (λ n. IsImageOf pages says.log says.redo n false page (in_home (told_on on) page)) (get_or-replicate 16 (stripe_of page) says.redo 0 (stripe-low page) ∙ sym is_redo)
        (subst (λ (b : Bool). IsImageOf pages says.log says.redo (get_or (replicate 16 says.redo) (stripe_of page) 0) b page (in_home (told_on on) page)) (no-flag pages page is) (st.images refl page is))

    ahead_here : (page : ℕ) → IsDataPage pages page → IsAhead pages says.log redo page (known_of (told_on on) clean page)
    ahead_here page is =
        let i = image_was page is in
        subst (λ (k : Known). IsAhead pages says.log redo page k) (sym (clean_known page ∙ i.value))
        (law pages says.log redo page i.lsn (st.proper refl) is.0 is.1 i.high redo_low (i.clean refl))

    pub clean_ahead : (page : ℕ) → IsDataPage clean.count page → IsAhead clean.count s.log (applied_of clean (stripe_of page)) page (known_of (told_on on) clean page)
    clean_ahead page is =
        subst (λ n. IsAhead n s.log (applied_of clean (stripe_of page)) page (known_of (told_on on) clean page)) (sym count)
        (subst (λ (l : Log). IsAhead pages l (applied_of clean (stripe_of page)) page (known_of (told_on on) clean page)) same_log
        (subst (λ n. IsAhead pages says.log n page (known_of (told_on on) clean page)) (sym (at_redo (stripe_of page) (stripe-low page)))
        (ahead_here page (is.0, subst (λ n. page < 16 + n) count is.1))))

    -- once they were redone
    module _ (new : ScriptedView D) (v : PagesView) (shows : ShowsSame keeps reads may_hold disk new) (room : size new.disk ≡ size disk.disk) (all : AreRedone on s.log clean v) where
      data_in : (page : ℕ) → IsDataPage pages page → IsDataPage clean.count page
      data_in page is = (is.0, subst (λ n. page < 16 + n) (sym count) is.1)

      stands_all : (stripe : ℕ) → stripe < 16 → applied_of v stripe ≡ end_of says.log
      stands_all stripe lt = ap (λ (xs : List ℕ). get_or xs stripe 0) all.applied ∙ get_or-replicate 16 stripe (end_of s.log) 0 lt ∙ ap (λ (l : Log). end_of l) (sym same_log)

      dirty_now : (page : ℕ) → IsDataPage pages page → is_dirty v page ≡ (false || is_touched_between pages says.log.records page redo (end_of says.log))
      dirty_now page is =
          all.dirty page (data_in page is)
          ∙ ap (λ (b : Bool). b || is_touched_between clean.count s.log.records page (applied_of clean (stripe_of page)) (end_of s.log)) (clean_flag page)
          ∙ ap (λ n. is_touched_between n s.log.records page (applied_of clean (stripe_of page)) (end_of s.log)) count
          ∙ ap (λ n. is_touched_between pages s.log.records page n (end_of s.log)) (at_redo (stripe_of page) (stripe-low page))
          ∙ ap (λ (l : Log). is_touched_between pages l.records page redo (end_of l)) (sym same_log)

      pub started_up : IsStore size keeps reads may_hold new pages (Some (record { log = s; pages = v; redo = redo })) true
      started_up = redone_store size keeps reads may_hold disk pages None true st s is_memory redo is_redo (λ page. redo) (λ page. false) image_was new v shows (subst (λ n. log_end ≤ n) (sym room) st.room) (all.count ∙ count)
          (ends-all says v.applied (end_of says.log) (all.applied ∙ ap (λ (l : Log). replicate 16 (end_of l)) (sym same_log)) (end_last pages says.log (st.proper refl)) (subst (λ n. n ≤ end_of says.log) is_redo redo_low))
          (λ page is.
          all.values page (data_in page is)
          ∙ ap (λ n. Value (value n s.log.records (end_of s.log) page)) count
          ∙ ap (λ (l : Log). Value (value pages l.records (end_of l) page)) (sym same_log)
          ∙ ap (λ n. Value (value pages says.log.records n page)) (sym (stands_all (stripe_of page) (stripe-low page))))
          (λ page is. dirty_now page is ∙ ap (λ n. false || is_touched_between pages says.log.records page redo n) (sym (stands_all (stripe_of page) (stripe-low page))))

      pub seen_up : store_on (reads_of reads new) pages (Some (record { log = s; pages = v; redo = redo })) true 0 ≡ caught_up (record (store_on (reads_of reads disk) pages None true 0) { kept = kept_on (reads_of reads disk) true })
      seen_up =
          let a : v.applied ≡ replicate 16 (end_of says.log) = all.applied ∙ ap (λ (l : Log). replicate 16 (end_of l)) (sym same_log) in
          let none : map (λ (page : ℕ). false) (page_numbers pages) ≡ replicate pages false = map-one (λ (page : ℕ). false) false 16 pages (λ k low high. refl) in
          let d : map (is_dirty v) (page_numbers pages) ≡ set_where (λ page. is_touched_between pages says.log.records page says.redo (end_of says.log)) 16 (replicate pages false)
          = flags-set (λ page. is_touched_between pages says.log.records page says.redo (end_of says.log)) (λ page. false) (is_dirty v) 16 pages (λ page low high. dirty_now page (low, high) ∙ ap (λ n. is_touched_between pages says.log.records page n (end_of says.log)) is_redo)
          ∙ ap (λ (ds : List Bool). set_where (λ page. is_touched_between pages says.log.records page says.redo (end_of says.log)) 16 ds) none in
          λ i. record { kept = kept_on (shows.content i) true; pages = pages; cells = cells_on (shows.content i) pages; applied = a i; dirty = d i; sound = true; faults = 0 }
