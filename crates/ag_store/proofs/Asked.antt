-- A store that was asked of its pages, which were read in.
use Rattle.std.proofs.Common.{◌≡◌, ◌+◌, ◌≤◌, ◌||◌, ℕ, List, get_or, length, leb, ltb, map, Bool, true, false, Some, refl, sym, ap, ◌∙◌, subst, arith}
use Rattle.std.specs.Prelude.{Option}
use Rattle.std.proofs.lemmas.Bool.{and_from, le-leb, lt-ltb}
use Rattle.ag_model.specs.declared.record.Record.{Record}
use Rattle.ag_model.specs.declared.value.PageValue.{PageValue}
use Rattle.ag_model.specs.declared.value.Row.{Row}
use Rattle.ag_model.specs.Page.{pick, value}
use Rattle.ag_model.specs.Prefixes.{end_of}
use Rattle.ag_model.specs.Rows.{page_numbers, page_of, rows, stripe_of, touches}
use Rattle.ag_model.proofs.Prefixes.{end_low}
use Rattle.ag_outside.specs.Disks.{Content, Image}
use Rattle.ag_outside.specs.Scripts.{ScriptedView}
use Rattle.ag_outside.specs.Shown.{reads_of}
use Rattle.ag_logstore.specs.Stored.{log_end}
use Rattle.ag_stripe.specs.Known.Known.{Value}
use Rattle.ag_kept.specs.Kept.{Kept, kept_on}
use Rattle.ag_pages.specs.Reading.{OnlyReadsIn}
use Rattle.ag_pages.specs.Views.{PagesView, applied_of, is_dirty, is_page, known_of}
use Rattle.ag_version.specs.Steps.{AreProper}
use Rattle.ag_store.specs.declared.fault.ReadFault.{ReadFault}
use Rattle.ag_store.specs.Asking.{IsTooOldBy}
use Rattle.ag_store.specs.Images.{is_touched_between}
use Rattle.ag_store.specs.Redoing.{ShowsSame}
use Rattle.ag_store.specs.Standing.{IsStore, IsLoaded, IsDataPage, AreAtEnds, AreValues, told_on}
use Rattle.ag_store.specs.Views.{MemoryView, StoreView, store_on, cells_on}
use Rattle.ag_store.proofs.Asking.{says_value}
use Rattle.ag_store.proofs.Flags.{map-same}
use Rattle.ag_store.proofs.Stores.{image_at, loaded_of, stands_at, proper_of, redone_store, stripe-low}
use Rattle.ag_store.proofs.Touching.{none-here}

or-none : (a b : Bool) → b ≡ false → a ≡ (a || b)
or-none true b e = refl
or-none false b e = sym e

module _ {D : Type 0} (size : D → ℕ) (keeps : D → Bool) (reads : D → Image) (may_hold : D → ℕ → Content → Type 0) (disk : ScriptedView D) (pages : ℕ) (memory : Option MemoryView) (sound : Bool) (m : MemoryView)
    (st : IsStore size keeps reads may_hold disk pages memory sound) (is_sound : sound ≡ true) (has : memory ≡ Some m) where
  abbrev image : Image
  image = reads_of reads disk

  abbrev kept : Kept
  kept = kept_on (reads_of reads disk) true

  loaded : IsLoaded keeps reads may_hold disk pages m
  loaded = loaded_of size keeps reads may_hold disk pages memory sound m st is_sound has

  -- the view of a store that is up
  pub view_up : (faults : ℕ) → store_on (reads_of reads disk) pages memory sound faults ≡ store_on (reads_of reads disk) pages (Some m) sound faults
  view_up faults = ap (λ (o : Option MemoryView). store_on (reads_of reads disk) pages o sound faults) has

  -- the value of a page
  abbrev pub value_now : ℕ → PageValue
  value_now page = value pages (kept_on (reads_of reads disk) true).log.records (applied_of m.pages (stripe_of page)) page

  pub known_at : (page : ℕ) → IsDataPage pages page → known_of (told_on image) m.pages page ≡ Value (value_now page)
  known_at page is = loaded.values page is

  -- the page of a key
  pub page_there : (key : ℕ) → IsDataPage pages (page_of pages key)
  page_there key = (omega arith, omega (arith, st.low))

  pub known_row : (key : ℕ) → known_of (told_on image) m.pages (page_of m.pages.count key) ≡ Value (value_now (page_of pages key))
  known_row key = ap (λ (n : ℕ). known_of (told_on image) m.pages (page_of n key)) loaded.count ∙ known_at (page_of pages key) (page_there key)

  -- a page is one of the data pages in memory
  pub page_is : (page : ℕ) → IsDataPage pages page → is_page m.pages page ≡ true
  page_is page is = and_from (leb 16 page) (ltb page (16 + m.pages.count)) (le-leb 16 page is.0) (lt-ltb page (16 + m.pages.count) (omega (arith, is.1, loaded.count)))

  -- no stripe stands above the end of the log
  pub stands_low : (page : ℕ) → applied_of m.pages (stripe_of page) ≤ end_of kept.log
  stands_low page = end_low pages kept.log (applied_of m.pages (stripe_of page)) (proper_of size keeps reads may_hold disk pages memory sound m st is_sound has)
      (stands_at size keeps reads may_hold disk pages memory sound m st is_sound has (stripe_of page) (stripe-low page)).0

  -- pages were read in
  module _ (v : PagesView) (read : OnlyReadsIn (told_on image) m.pages v) where
    same_applied : (stripe : ℕ) → applied_of v stripe ≡ applied_of m.pages stripe
    same_applied stripe = ap (λ (ns : List ℕ). get_or ns stripe 0) read.applied

    read_values : AreValues pages image kept v
    read_values page is =
        says_value (known_of (told_on image) m.pages page) (known_of (told_on image) v page) (value_now page) (known_at page is) (read.known page)
        ∙ ap (λ (n : ℕ). Value (value pages kept.log.records n page)) (sym (same_applied (stripe_of page)))

    read_dirty : (page : ℕ) → is_dirty v page ≡ (is_dirty m.pages page || is_touched_between pages kept.log.records page (applied_of m.pages (stripe_of page)) (applied_of v (stripe_of page)))
    read_dirty page =
        let stripe : ℕ = stripe_of page in
        let none : is_touched_between pages kept.log.records page (applied_of m.pages stripe) (applied_of v stripe) ≡ false =
        ap (λ (n : ℕ). is_touched_between pages kept.log.records page (applied_of m.pages stripe) n) (same_applied stripe) ∙ none-here (touches pages page) (applied_of m.pages stripe) kept.log.records in
        read.dirty page ∙ or-none (is_dirty m.pages page) (is_touched_between pages kept.log.records page (applied_of m.pages stripe) (applied_of v stripe)) none

    module _ (new : ScriptedView D) (shows : ShowsSame keeps reads may_hold disk new) where
      pub read_store : log_end ≤ size new.disk → IsStore size keeps reads may_hold new pages (Some (record { log = m.log; pages = v; redo = m.redo })) sound
      read_store room = redone_store size keeps reads may_hold disk pages memory sound st m.log loaded.log m.redo loaded.redo (λ page. applied_of m.pages (stripe_of page)) (is_dirty m.pages)
          (image_at size keeps reads may_hold disk pages memory sound m st is_sound has) new v shows room (read.count ∙ loaded.count)
          (subst (λ (ns : List ℕ). AreAtEnds kept ns) (sym read.applied) loaded.ends) read_values (λ page is. read_dirty page)

      -- what is seen of the store then
      pub read_view : (now : Bool) (before after : ℕ)
          → store_on (reads_of reads new) pages (Some (record { log = m.log; pages = v; redo = m.redo })) now after ≡ record (store_on (reads_of reads disk) pages memory sound before) { sound = now; faults = after }
      read_view now before after =
          let base : Image → List ℕ → List Bool → StoreView = λ i a d. record { kept = kept_on i true; pages = pages; cells = cells_on i pages; applied = a; dirty = d; sound = now; faults = after } in
          ap (λ (i : Image). base i v.applied (map (is_dirty v) (page_numbers pages))) shows.content
          ∙ ap (λ (a : List ℕ). base image a (map (is_dirty v) (page_numbers pages))) read.applied
          ∙ ap (λ (d : List Bool). base image m.pages.applied d) (map-same (is_dirty v) (is_dirty m.pages) 16 pages (λ k low high. read.dirty k))
          ∙ sym (ap (λ (o : Option MemoryView). record (store_on (reads_of reads disk) pages o sound before) { sound = now; faults = after }) has)

  -- the store as it is seen
  module _ (faults : ℕ) (s : StoreView) (is : store_on (reads_of reads disk) pages memory sound faults ≡ s) where
    as_seen : s ≡ store_on (reads_of reads disk) pages (Some m) sound faults
    as_seen = sym is ∙ view_up faults

    value_is : (page : ℕ) → value s.pages s.kept.log.records (get_or s.applied (stripe_of page) 0) page ≡ value_now page
    value_is page = ap (λ (t : StoreView). value t.pages t.kept.log.records (get_or t.applied (stripe_of page) 0) page) as_seen

    pub pages_seen : s.pages ≡ pages
    pages_seen = ap (λ (t : StoreView). t.pages) as_seen

    pub data_page : (page : ℕ) → IsDataPage s.pages page → IsDataPage pages page
    data_page page here = subst (λ (n : ℕ). IsDataPage n page) pages_seen here

    -- the value of a page that was asked
    pub value_seen : (page : ℕ) (v : PageValue) → IsDataPage s.pages page → known_of (told_on (reads_of reads disk)) m.pages page ≡ Value v → v ≡ value s.pages s.kept.log.records (get_or s.applied (stripe_of page) 0) page
    value_seen page v here known = (let e : Value v ≡ Value (value_now page) = sym known ∙ known_at page (data_page page here) in same_value v (value_now page) e) ∙ sym (value_is page)
      where
        same_value : (a b : PageValue) → Value a ≡ Value b → a ≡ b
        same_value a b e = cc e

    -- a row that was picked
    module _ (key snapshot : ℕ) where
      horizon_is : (value s.pages s.kept.log.records (get_or s.applied (stripe_of (page_of s.pages key)) 0) (page_of s.pages key)).horizon ≡ (value_now (page_of pages key)).horizon
      horizon_is = ap (λ (t : StoreView). (value t.pages t.kept.log.records (get_or t.applied (stripe_of (page_of t.pages key)) 0) (page_of t.pages key)).horizon) as_seen

      pub young_seen : (row : Row) → ((v : PageValue) → known_of (told_on (reads_of reads disk)) m.pages (page_of m.pages.count key) ≡ Value v → (v.horizon ≤ snapshot) × (row ≡ pick v key snapshot))
          → (value s.pages s.kept.log.records (get_or s.applied (stripe_of (page_of s.pages key)) 0) (page_of s.pages key)).horizon ≤ snapshot
      young_seen row picked = subst (λ (n : ℕ). n ≤ snapshot) (sym horizon_is) (picked (value_now (page_of pages key)) (known_row key)).0

      pub old_seen : (e : ReadFault) → ((v : PageValue) → known_of (told_on (reads_of reads disk)) m.pages (page_of m.pages.count key) ≡ Value v → IsTooOldBy snapshot v.horizon e)
          → IsTooOldBy snapshot (value s.pages s.kept.log.records (get_or s.applied (stripe_of (page_of s.pages key)) 0) (page_of s.pages key)).horizon e
      old_seen e old = subst (λ (n : ℕ). IsTooOldBy snapshot n e) (sym horizon_is) (old (value_now (page_of pages key)) (known_row key))

      pub row_seen : ((pages n m key : ℕ) (log : List Record) → AreProper pages log → n ≤ m → m ≤ length log → (value pages log m (page_of pages key)).horizon ≤ n → pick (value pages log m (page_of pages key)) key n ≡ rows log n key)
          → (row : Row) → snapshot ≤ get_or s.applied (stripe_of (page_of s.pages key)) 0
          → ((v : PageValue) → known_of (told_on (reads_of reads disk)) m.pages (page_of m.pages.count key) ≡ Value v → (v.horizon ≤ snapshot) × (row ≡ pick v key snapshot))
          → row ≡ rows s.kept.log.records snapshot key
      row_seen law row redone picked =
          let here = picked (value_now (page_of pages key)) (known_row key) in
          let within : snapshot ≤ applied_of m.pages (stripe_of (page_of pages key)) = subst (λ (t : StoreView). snapshot ≤ get_or t.applied (stripe_of (page_of t.pages key)) 0) as_seen redone in
          let proper = proper_of size keeps reads may_hold disk pages memory sound m st is_sound has in
          here.1
          ∙ law pages snapshot (applied_of m.pages (stripe_of (page_of pages key))) key kept.log.records proper.each within (stands_low (page_of pages key)) here.0
          ∙ sym (ap (λ (t : StoreView). rows t.kept.log.records snapshot key) as_seen)
