-- What holds of a store before and after a call.
use Rattle.std.proofs.Common.{◌≡◌, ◌-◌, ◌≤◌, ◌<◌, ◌||◌, ℕ, List, get_or, map, Bool, true, false, IsTrue, Some, None, sym, ap, ◌∙◌, subst, arith}
use Rattle.std.specs.Prelude.{Option, replicate}
use Rattle.std.specs.Option.{MatchOption}
use Rattle.std.proofs.lemmas.List.{get_or-replicate}
use Rattle.std.proofs.lemmas.List.Elements.{All-from_recursion}
use Rattle.ag_model.specs.Prefixes.{IsBlockEnd}
use Rattle.ag_model.specs.Proper.{IsProper}
use Rattle.ag_model.specs.Rows.{page_numbers, stripe_of}
use Rattle.ag_outside.specs.Disks.{Content, Image}
use Rattle.ag_outside.specs.Scripts.{ScriptedView}
use Rattle.ag_outside.specs.Shown.{reads_of, holds_of}
use Rattle.ag_logstore.specs.Stored.{log_end}
use Rattle.ag_logstore.specs.Stores.{IsReady, IsCurrent, StoreView as LogView}
use Rattle.ag_stripe.specs.Known.{in_home}
use Rattle.ag_kept.specs.Kept.{Kept, kept_on, master_on}
use Rattle.ag_kept.specs.Standing.{IsAtHome, IsHome, IsMemory}
use Rattle.ag_pages.specs.Views.{PagesView, applied_of, is_dirty}
use Rattle.ag_store.specs.Images.{IsImageOf, is_touched_between}
use Rattle.ag_store.specs.Redoing.{ShowsSame}
use Rattle.ag_store.specs.Standing.{IsStore, IsLoaded, IsDataPage, AreImages, AreValues, AreAtEnds, told_on}
use Rattle.ag_store.specs.Views.{MemoryView, applied_in, dirty_in}
use Rattle.ag_store.proofs.Flags.{flag-at, no-flag}
use Rattle.ag_store.proofs.Values.{image-fallen, image-redone}

-- the number of a stripe
pub stripe-low : (page : ℕ) → stripe_of page < 16
stripe-low page = omega arith

-- images of pages whose memory is lost
pub images-fallen : (pages : ℕ) (image : Image) (kept : Kept) (applied : List ℕ) (dirty : List Bool) → AreImages pages image kept applied dirty → AreImages pages image kept (replicate 16 kept.redo) (replicate pages false)
images-fallen pages image kept applied dirty are page is =
    subst (λ n. IsImageOf pages kept.log kept.redo n (get_or (replicate pages false) (page - 16) false) page (in_home (told_on image) page)) (sym (get_or-replicate 16 (stripe_of page) kept.redo 0 (stripe-low page)))
    (subst (λ (b : Bool). IsImageOf pages kept.log kept.redo kept.redo b page (in_home (told_on image) page)) (sym (no-flag pages page is))
    (image-fallen pages kept.log kept.redo (get_or applied (stripe_of page) 0) (get_or dirty (page - 16) false) page (in_home (told_on image) page) (are page is)))

module _ {D : Type 0} (size : D → ℕ) (keeps : D → Bool) (reads : D → Image) (may_hold : D → ℕ → Content → Type 0) where
  -- a store after a fault
  pub broken : (disk : ScriptedView D) (pages : ℕ) (memory : Option MemoryView) → log_end ≤ size disk.disk → 16 ≤ pages → pages ≤ 2048 → IsStore size keeps reads may_hold disk pages memory false
  broken disk pages memory room low high = record { room = room; low = low; high = high; stands = λ e. absurd (cc e); proper = λ e. absurd (cc e); redo = λ e. absurd (cc e); images = λ e. absurd (cc e); loaded = λ e. absurd (cc e) }

  -- a store without memory
  pub without_memory : (disk : ScriptedView D) (pages : ℕ) (memory : Option MemoryView) (sound : Bool) → IsStore size keeps reads may_hold disk pages memory sound → IsStore size keeps reads may_hold disk pages None sound
  without_memory disk pages memory sound st = record {
    room = st.room;
    low = st.low;
    high = st.high;
    stands = st.stands;
    proper = st.proper;
    redo = st.redo;
    images = λ e. images-fallen pages (reads_of reads disk) (kept_on (reads_of reads disk) true) (applied_in (kept_on (reads_of reads disk) true).redo memory) (dirty_in pages memory) (st.images e);
    loaded = λ e. tt;
  }

  -- a disk that was read
  module _ (disk new : ScriptedView D) (shows : ShowsSame keeps reads may_hold disk new) where
    pub shows_home : IsAtHome keeps reads disk → IsAtHome keeps reads new
    shows_home h = record {
      modelled = subst IsTrue (sym shows.keeping) h.modelled;
      unsynced = shows.unsynced ∙ h.unsynced;
      home = subst IsHome (sym shows.content) h.home;
    }

    shows_ready : (s : LogView) → IsReady (keeps disk.disk) (reads_of reads disk) (holds_of keeps may_hold disk) s → IsReady (keeps new.disk) (reads_of reads new) (holds_of keeps may_hold new) s
    shows_ready s r = record {
      least = r.least;
      most = r.most;
      current = λ k. subst (λ (i : Image). IsCurrent i s) (sym shows.content) (r.current (subst IsTrue shows.keeping k));
      synced = λ k at content held. r.synced (subst IsTrue shows.keeping k) at content ((shows.images at content).0 held) ∙ sym (ap (λ (i : Image). i at) shows.content);
    }

    pub shows_memory : (s : LogView) → IsMemory keeps reads may_hold disk s → IsMemory keeps reads may_hold new s
    shows_memory s m = record {
      cut = m.cut ∙ sym (ap (λ (i : Image). (master_on i).cut) shows.content);
      incarnation = m.incarnation ∙ sym (ap (λ (i : Image). (master_on i).incarnation) shows.content);
      is_open = m.is_open;
      ready = shows_ready s m.ready;
    }

  -- a store that is up
  module _ (disk : ScriptedView D) (pages : ℕ) (memory : Option MemoryView) (sound : Bool) (m : MemoryView) (st : IsStore size keeps reads may_hold disk pages memory sound) (is_sound : sound ≡ true) (has : memory ≡ Some m) where
    abbrev image : Image
    image = reads_of reads disk

    abbrev kept : Kept
    kept = kept_on (reads_of reads disk) true

    pub loaded_of : IsLoaded keeps reads may_hold disk pages m
    loaded_of = subst (λ (o : Option MemoryView). MatchOption o (Unit {0}) (λ m. IsLoaded keeps reads may_hold disk pages m)) has (st.loaded is_sound)

    pub proper_of : IsProper pages kept.log
    proper_of = st.proper is_sound

    -- where a stripe stands
    pub stands_at : (stripe : ℕ) → stripe < 16 → IsBlockEnd kept.log (applied_of m.pages stripe) × (kept.redo ≤ applied_of m.pages stripe)
    stands_at stripe lt = All-from_recursion (λ n. IsBlockEnd kept.log n × (kept.redo ≤ n)) m.pages.applied loaded_of.ends.ends stripe 0 (omega (arith, lt, loaded_of.ends.sixteen))

    pub images_of : AreImages pages image kept m.pages.applied (dirty_in pages (Some m))
    images_of = subst (λ (o : Option MemoryView). AreImages pages image kept (applied_in kept.redo o) (dirty_in pages o)) has (st.images is_sound)

    -- the image of a page
    pub image_at : (page : ℕ) → IsDataPage pages page → IsImageOf pages kept.log kept.redo (applied_of m.pages (stripe_of page)) (is_dirty m.pages page) page (in_home (told_on image) page)
    image_at page is = subst (λ (b : Bool). IsImageOf pages kept.log kept.redo (applied_of m.pages (stripe_of page)) b page (in_home (told_on image) page)) (flag-at m.pages pages page is) (images_of page is)

  -- a store once its pages were redone
  module _ (disk : ScriptedView D) (pages : ℕ) (memory : Option MemoryView) (sound : Bool) (st : IsStore size keeps reads may_hold disk pages memory sound) where
    abbrev on : Image
    on = reads_of reads disk

    abbrev says : Kept
    says = kept_on (reads_of reads disk) true

    module _ (log : LogView) (is_memory : IsMemory keeps reads may_hold disk log) (redo : ℕ) (is_redo : redo ≡ says.redo) (from : ℕ → ℕ) (was : ℕ → Bool)
        (image_is : (page : ℕ) → IsDataPage pages page → IsImageOf pages says.log says.redo (from page) (was page) page (in_home (told_on on) page))
        (new : ScriptedView D) (v : PagesView) (shows : ShowsSame keeps reads may_hold disk new) (room : log_end ≤ size new.disk) (count : v.count ≡ pages) (ends : AreAtEnds says v.applied) (values : AreValues pages on says v)
        (dirty : (page : ℕ) → IsDataPage pages page → is_dirty v page ≡ (was page || is_touched_between pages says.log.records page (from page) (applied_of v (stripe_of page)))) where
      images_after : AreImages pages on says v.applied (map (is_dirty v) (page_numbers pages))
      images_after page is =
          subst (λ (b : Bool). IsImageOf pages says.log says.redo (applied_of v (stripe_of page)) b page (in_home (told_on on) page)) (sym (flag-at v pages page is))
          (image-redone pages says.log says.redo (from page) (applied_of v (stripe_of page)) (was page) (is_dirty v page) page (in_home (told_on on) page) (dirty page is) (image_is page is))

      pub redone_store : IsStore size keeps reads may_hold new pages (Some (record { log = log; pages = v; redo = redo })) sound
      redone_store = record {
        room = room;
        low = st.low;
        high = st.high;
        stands = λ e. shows_home disk new shows (st.stands e);
        proper = λ e. subst (λ (i : Image). IsProper pages (kept_on i true).log) (sym shows.content) (st.proper e);
        redo = λ e. subst (λ (i : Image). IsBlockEnd (kept_on i true).log (kept_on i true).redo) (sym shows.content) (st.redo e);
        images = λ e. subst (λ (i : Image). AreImages pages i (kept_on i true) v.applied (map (is_dirty v) (page_numbers pages))) (sym shows.content) images_after;
        loaded = λ e. record {
          log = shows_memory disk new shows log is_memory;
          count = count;
          redo = is_redo ∙ sym (ap (λ (i : Image). (kept_on i true).redo) shows.content);
          ends = subst (λ (i : Image). AreAtEnds (kept_on i true) v.applied) (sym shows.content) ends;
          values = subst (λ (i : Image). AreValues pages i (kept_on i true) v) (sym shows.content) values;
        };
      }
