-- A store whose disk was read.
use Rattle.std.proofs.Common.{◌≡◌, ◌-◌, ◌≤◌, ℕ, [], get_or, Bool, true, Some, None, sym, ap, ◌∙◌, subst, arith}
use Rattle.std.specs.Prelude.{Option}
use Rattle.std.specs.Option.{MatchOption}
use Rattle.std.proofs.lemmas.List.FromFn.{get_or-map-range_with_len}
use Rattle.ag_model.specs.Prefixes.{IsBlockEnd}
use Rattle.ag_model.specs.Proper.{IsProper}
use Rattle.ag_outside.specs.Disks.{Content, Image}
use Rattle.ag_outside.specs.Scripts.{ScriptedView}
use Rattle.ag_outside.specs.Shown.{reads_of}
use Rattle.ag_logstore.specs.Stored.{log_end}
use Rattle.ag_pagestore.specs.Places.{IsPage, page_cells}
use Rattle.ag_kept.specs.Kept.{kept_on}
use Rattle.ag_store.specs.Redoing.{ShowsSame}
use Rattle.ag_store.specs.Standing.{AreAtEnds, AreImages, AreValues, IsDataPage, IsLoaded, IsStore}
use Rattle.ag_store.specs.Views.{MemoryView, StoreView, applied_in, dirty_in, store_on}
use Rattle.ag_store.proofs.Stores.{shows_home, shows_memory}

module _ {D : Type 0} (size : D → ℕ) (keeps : D → Bool) (reads : D → Image) (may_hold : D → ℕ → Content → Type 0) (disk : ScriptedView D) (pages : ℕ) (memory : Option MemoryView) (sound : Bool) where
  module _ (new : ScriptedView D) (shows : ShowsSame keeps reads may_hold disk new) where
    same_memory : (o : Option MemoryView) → MatchOption o (Unit {0}) (λ m. IsLoaded keeps reads may_hold disk pages m) → MatchOption o (Unit {0}) (λ m. IsLoaded keeps reads may_hold new pages m)
    same_memory None l = tt
    same_memory (Some m) l = record {
      log = shows_memory size keeps reads may_hold disk new shows m.log l.log;
      count = l.count;
      redo = l.redo ∙ sym (ap (λ (i : Image). (kept_on i true).redo) shows.content);
      ends = subst (λ (i : Image). AreAtEnds (kept_on i true) m.pages.applied) (sym shows.content) l.ends;
      values = subst (λ (i : Image). AreValues pages i (kept_on i true) m.pages) (sym shows.content) l.values;
    }

    pub same_store : IsStore size keeps reads may_hold disk pages memory sound → log_end ≤ size new.disk → IsStore size keeps reads may_hold new pages memory sound
    same_store st room = record {
      room = room;
      low = st.low;
      high = st.high;
      stands = λ e. shows_home size keeps reads may_hold disk new shows (st.stands e);
      proper = λ e. subst (λ (i : Image). IsProper pages (kept_on i true).log) (sym shows.content) (st.proper e);
      redo = λ e. subst (λ (i : Image). IsBlockEnd (kept_on i true).log (kept_on i true).redo) (sym shows.content) (st.redo e);
      images = λ e. subst (λ (i : Image). AreImages pages i (kept_on i true) (applied_in (kept_on i true).redo memory) (dirty_in pages memory)) (sym shows.content) (st.images e);
      loaded = λ e. same_memory memory (st.loaded e);
    }

    pub same_view : (before after : ℕ) → store_on (reads_of reads new) pages memory sound after ≡ record (store_on (reads_of reads disk) pages memory sound before) { faults = after }
    same_view before after = ap (λ (i : Image). store_on i pages memory sound after) shows.content

  -- the store as it is seen
  module _ (faults : ℕ) (s : StoreView) (is : store_on (reads_of reads disk) pages memory sound faults ≡ s) where
    pages_are : s.pages ≡ pages
    pages_are = sym (ap (λ (t : StoreView). t.pages) is)

    pub place_of : (page : ℕ) → pages ≤ 2048 → IsDataPage s.pages page → IsPage page
    place_of page few here = (here.0, omega (arith, here.1, few, pages_are))

    pub cells_seen : (page : ℕ) → IsDataPage s.pages page → page_cells (reads_of reads disk) page ≡ get_or s.cells (page - 16) []
    cells_seen page here =
        sym (get_or-map-range_with_len (page_cells (reads_of reads disk)) 16 pages (page - 16) page [] (omega (arith, here.0, here.1, pages_are)) (omega (arith, here.0)))
        ∙ ap (λ (t : StoreView). get_or t.cells (page - 16) []) is
