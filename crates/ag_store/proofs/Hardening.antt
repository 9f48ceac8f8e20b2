-- A store once a block was written so far.
use Rattle.std.proofs.Common.{◌≡◌, ℕ, ◌<◌, ◌≤◌, List, map, Bool, true, false, Some, None, refl, sym, ap, ◌∙◌, subst}
use Rattle.std.specs.Prelude.{Option, replicate}
use Rattle.ag_model.specs.declared.record.Log.{Log}
use Rattle.ag_model.specs.declared.record.Record.{Record}
use Rattle.ag_model.specs.Blocks.{with_block}
use Rattle.ag_model.specs.Prefixes.{end_of, IsBlockEnd, IsPrefix}
use Rattle.ag_model.specs.Proper.{IsProper}
use Rattle.ag_model.specs.Rows.{page_numbers}
use Rattle.ag_model.proofs.Prefixes.{end_low, end_later, prefix_refl}
use Rattle.ag_model.proofs.ProperPrefixes.{prefix_more}
use Rattle.ag_outside.specs.Disks.{Content, Image}
use Rattle.ag_outside.specs.Scripts.{ScriptedView}
use Rattle.ag_outside.specs.Shown.{reads_of, holds_of}
use Rattle.ag_logstore.specs.Stored.{log_end}
use Rattle.ag_logstore.specs.Stores.{IsReady, StoreView as LogView}
use Rattle.ag_kept.specs.declared.reach.Reach.{Reach}
use Rattle.ag_kept.specs.declared.reach.Reach.TheVariants.{End, Stop, Fault}
use Rattle.ag_kept.specs.Ending.{IsSettled}
use Rattle.ag_kept.specs.Kept.{Kept, kept_on, master_on, hardened, SamePages}
use Rattle.ag_kept.specs.Standing.{IsStore as IsKeptStore, LeavesLog, reached_log}
use Rattle.ag_kept.proofs.Homes.{kept_so, log_leaves_pages}
use Rattle.ag_kept.proofs.Stores.{log_of, after_home, after_memory, after_kept, after_kept_end, after_kept_so}
use Rattle.ag_pages.specs.Views.{applied_of, is_dirty}
use Rattle.ag_store.specs.Standing.{IsStore, AreImages}
use Rattle.ag_store.specs.Views.{MemoryView, store_on, cells_on, hardened_store}
use Rattle.ag_store.proofs.Growing.{images-grow, values-grow, ends-grow}
use Rattle.ag_store.proofs.Pages.{cells-same}
use Rattle.ag_store.proofs.Stores.{loaded_of, proper_of, stands_at, images_of, images-fallen}

-- the log with the block, or as before
longer-reached : (pages : ℕ) (log : Log) (s : LogView) (records : List Record) → log ≡ s.log → IsProper pages log → IsProper pages (with_block log records) → (r : Reach) → IsPrefix log (reached_log s records r)
longer-reached pages log s records e p q End = subst (λ (l : Log). IsPrefix log (with_block l records)) e (prefix_more pages log records p q)
longer-reached pages log s records e p q (Stop true) = subst (λ (l : Log). IsPrefix log (with_block l records)) e (prefix_more pages log records p q)
longer-reached pages log s records e p q (Stop false) = subst (λ (l : Log). IsPrefix log l) e (prefix_refl pages log p)
longer-reached pages log s records e p q Fault = subst (λ (l : Log). IsPrefix log l) e (prefix_refl pages log p)

proper-reached : (pages : ℕ) (log : Log) (s : LogView) (records : List Record) → log ≡ s.log → IsProper pages log → IsProper pages (with_block log records) → (r : Reach) → IsProper pages (reached_log s records r)
proper-reached pages log s records e p q End = subst (λ (l : Log). IsProper pages (with_block l records)) e q
proper-reached pages log s records e p q (Stop true) = subst (λ (l : Log). IsProper pages (with_block l records)) e q
proper-reached pages log s records e p q (Stop false) = subst (IsProper pages) e p
proper-reached pages log s records e p q Fault = subst (IsProper pages) e p

module _ {D : Type 0} (size : D → ℕ) (keeps : D → Bool) (reads : D → Image) (may_hold : D → ℕ → Content → Type 0) (disk : ScriptedView D) (pages : ℕ) (memory : Option MemoryView) (sound : Bool) (m : MemoryView) (st : IsStore size keeps reads may_hold disk pages memory sound) (is_sound : sound ≡ true) (has : memory ≡ Some m) where
  abbrev kept : Kept
  kept = kept_on (reads_of reads disk) true

  kept_store : IsKeptStore size keeps reads may_hold disk (Some m.log) sound
  kept_store = record { room = st.room; stands = st.stands; loaded = λ e. (loaded_of size keeps reads may_hold disk pages memory sound m st is_sound has).log }

  -- memory has the log of the disk
  pub same_log : kept.log ≡ m.log.log
  same_log = log_of size keeps reads may_hold disk (Some m.log) sound m.log kept_store is_sound refl

  pub proper_log : IsProper pages kept.log
  proper_log = proper_of size keeps reads may_hold disk pages memory sound m st is_sound has

  pub redo_low : kept.redo ≤ end_of kept.log
  redo_low = end_low pages kept.log kept.redo proper_log (st.redo is_sound)

  pub applied_low : (stripe : ℕ) → stripe < 16 → applied_of m.pages stripe ≤ end_of kept.log
  applied_low stripe lt = end_low pages kept.log (applied_of m.pages stripe) proper_log (stands_at size keeps reads may_hold disk pages memory sound m st is_sound has stripe lt).0

  module _ (new : ScriptedView D) (records : List Record) (r : Reach) (settled : IsSettled keeps disk new) (leaves : LeavesLog (reads_of reads disk) m.log.cut m.log.incarnation (reached_log m.log records r) (reads_of reads new)) (room : size new.disk ≡ size disk.disk) (proper : IsProper pages (with_block kept.log records)) where
    abbrev later : Kept
    later = kept_on (reads_of reads new) true

    kept_after : (loaded : Bool) → kept_on (reads_of reads new) loaded ≡ kept_so (reached_log m.log records r) (master_on (reads_of reads disk)).incarnation (master_on (reads_of reads disk)).cut (master_on (reads_of reads disk)).redo (master_on (reads_of reads disk)).pages (master_on (reads_of reads disk)).replica loaded
    kept_after loaded = after_kept size keeps reads may_hold disk (Some m.log) sound m.log kept_store is_sound refl new (reached_log m.log records r) settled leaves loaded

    log_after : later.log ≡ reached_log m.log records r
    log_after = ap (λ (k : Kept). k.log) (kept_after true)

    redo_after : later.redo ≡ kept.redo
    redo_after = ap (λ (k : Kept). k.redo) (kept_after true)

    longer : IsPrefix kept.log later.log
    longer = subst (λ (l : Log). IsPrefix kept.log l) (sym log_after) (longer-reached pages kept.log m.log records same_log proper_log proper r)

    proper_after : IsProper pages later.log
    proper_after = subst (IsProper pages) (sym log_after) (proper-reached pages kept.log m.log records same_log proper_log proper r)

    redo_end : IsBlockEnd later.log later.redo
    redo_end = subst (λ n. IsBlockEnd later.log n) (sym redo_after) (end_later kept.log later.log kept.redo longer (st.redo is_sound))

    same_pages : SamePages (reads_of reads disk) (reads_of reads new)
    same_pages = log_leaves_pages (reads_of reads disk) (reads_of reads new) m.log.cut m.log.incarnation (reached_log m.log records r) leaves

    images_after : AreImages pages (reads_of reads new) later m.pages.applied (map (is_dirty m.pages) (page_numbers pages))
    images_after = images-grow pages st.high (reads_of reads disk) (reads_of reads new) kept later same_pages longer redo_after m.pages.applied (map (is_dirty m.pages) (page_numbers pages)) redo_low applied_low
        (images_of size keeps reads may_hold disk pages memory sound m st is_sound has)

    -- where memory is lost
    pub store_down : IsStore size keeps reads may_hold new pages None sound
    store_down = record {
      room = subst (λ n. log_end ≤ n) (sym room) st.room;
      low = st.low;
      high = st.high;
      stands = λ e. after_home size keeps reads may_hold disk (Some m.log) sound m.log kept_store is_sound refl new (reached_log m.log records r) settled leaves;
      proper = λ e. proper_after;
      redo = λ e. redo_end;
      images = λ e. images-fallen pages (reads_of reads new) later m.pages.applied (map (is_dirty m.pages) (page_numbers pages)) images_after;
      loaded = λ e. tt;
    }

    -- where it stays
    pub store_up : (t : LogView) → t ≡ record m.log { log = reached_log m.log records r } → IsReady (keeps new.disk) (reads_of reads new) (holds_of keeps may_hold new) t → IsStore size keeps reads may_hold new pages (Some (record { log = t; pages = m.pages; redo = m.redo })) sound
    store_up t is ready =
        let loaded = loaded_of size keeps reads may_hold disk pages memory sound m st is_sound has in
        record {
          room = subst (λ n. log_end ≤ n) (sym room) st.room;
          low = st.low;
          high = st.high;
          stands = λ e. after_home size keeps reads may_hold disk (Some m.log) sound m.log kept_store is_sound refl new (reached_log m.log records r) settled leaves;
          proper = λ e. proper_after;
          redo = λ e. redo_end;
          images = λ e. images_after;
          loaded = λ e. record {
            log = after_memory size keeps reads may_hold disk (Some m.log) sound m.log kept_store is_sound refl new (reached_log m.log records r) settled leaves t is ready;
            count = loaded.count;
            redo = loaded.redo ∙ sym redo_after;
            ends = ends-grow pages st.high (reads_of reads disk) (reads_of reads new) kept later same_pages longer redo_after m.pages.applied loaded.ends;
            values = values-grow pages st.high (reads_of reads disk) (reads_of reads new) kept later same_pages longer redo_after m.pages applied_low loaded.values;
          };
        }

    cells_after : cells_on (reads_of reads new) pages ≡ cells_on (reads_of reads disk) pages
    cells_after = cells-same (reads_of reads disk) (reads_of reads new) pages same_pages st.high

    -- what is seen where memory is lost
    pub seen_down : (before now : ℕ) → (r ≡ End → ⊥) → store_on (reads_of reads new) pages None sound now ≡ record (hardened_store (store_on (reads_of reads disk) pages (Some m) sound before) records r) { faults = now }
    seen_down before now other = go r (after_kept_so size keeps reads may_hold disk (Some m.log) sound m.log kept_store is_sound refl new records r true other settled leaves) other
      where
        go : (r : Reach) → kept_on (reads_of reads new) false ≡ hardened (kept_on (reads_of reads disk) true) records r → (r ≡ End → ⊥) → store_on (reads_of reads new) pages None sound now ≡ record (hardened_store (store_on (reads_of reads disk) pages (Some m) sound before) records r) { faults = now }
        go End e other = absurd (other refl)
        go (Stop whole) e other = λ i. record { kept = e i; pages = pages; cells = cells_after i; applied = replicate 16 (e i).redo; dirty = replicate pages false; sound = sound; faults = now }
        go Fault e other = λ i. record { kept = e i; pages = pages; cells = cells_after i; applied = replicate 16 (e i).redo; dirty = replicate pages false; sound = sound; faults = now }

  -- what is seen at the end
  pub seen_up : (new : ScriptedView D) (records : List Record) (t : LogView) (before now : ℕ) → IsSettled keeps disk new → LeavesLog (reads_of reads disk) m.log.cut m.log.incarnation (with_block m.log.log records) (reads_of reads new)
      → store_on (reads_of reads new) pages (Some (record { log = t; pages = m.pages; redo = m.redo })) sound now ≡ record (hardened_store (store_on (reads_of reads disk) pages (Some m) sound before) records End) { faults = now }
  seen_up new records t before now settled leaves =
      let e = after_kept_end size keeps reads may_hold disk (Some m.log) sound m.log kept_store is_sound refl new records settled leaves in
      let c = cells-same (reads_of reads disk) (reads_of reads new) pages (log_leaves_pages (reads_of reads disk) (reads_of reads new) m.log.cut m.log.incarnation (with_block m.log.log records) leaves) st.high in
      λ i. record { kept = e i; pages = pages; cells = c i; applied = m.pages.applied; dirty = map (is_dirty m.pages) (page_numbers pages); sound = sound; faults = now }
