-- A store once its log was applied to one stripe, or to all.
use Rattle.std.proofs.Common.{◌≡◌, ℕ, zero, suc, ◌+◌, ◌<◌, ◌≤◌, List, [], ◌∷◌, length, get_or, map, Bool, true, false, ◌||◌, ◌&&◌, if◌then◌else◌, eqb, Some, refl, sym, ap, ◌∙◌, subst, inl, inr, arith}
use Rattle.std.specs.Prelude.{Option, replicate, ◌==◌, nat_lt}
use Rattle.std.specs.List.{AllByRecursion}
use Rattle.std.proofs.lemmas.Bool.{cases_eq, or_left, or_right, eq-eqb, ne_eqb}
use Rattle.std.proofs.lemmas.List.{get_or-replicate, get_or-set_same, get_or-set_other, length-set, length-replicate}
use Rattle.std.proofs.lemmas.List.Elements.{recursion_from_All}
use Rattle.ag_model.specs.declared.record.Log.{Log}
use Rattle.ag_model.specs.Blocks.{cut_at, next_end}
use Rattle.ag_model.specs.Page.{value}
use Rattle.ag_model.specs.Prefixes.{end_of, IsBlockEnd}
use Rattle.ag_model.specs.Proper.{IsProper}
use Rattle.ag_model.specs.Rows.{contains, page_numbers, stripe_of, touches}
use Rattle.ag_model.proofs.Prefixes.{end_last}
use Rattle.ag_outside.specs.Disks.{Content, Image}
use Rattle.ag_outside.specs.Scripts.{ScriptedView}
use Rattle.ag_outside.specs.Shown.{reads_of}
use Rattle.ag_logstore.specs.Stored.{log_end}
use Rattle.ag_stripe.specs.Ahead.{IsAhead}
use Rattle.ag_stripe.specs.Known.Known.{Value}
use Rattle.ag_kept.specs.Kept.{Kept, kept_on}
use Rattle.ag_pages.specs.Views.{PagesView, applied_of, is_of, is_dirty, known_of}
use Rattle.ag_store.specs.Images.{is_touched_between}
use Rattle.ag_store.specs.Redoing.{ShowsSame, IsRedone, AreRedone}
use Rattle.ag_store.specs.Standing.{IsStore, IsDataPage, AreAtEnds, AreValues, told_on}
use Rattle.ag_store.specs.Views.{MemoryView, store_on, cells_on, set_where}
use Rattle.ag_store.proofs.Flags.{flags-set}
use Rattle.ag_store.proofs.Hardening.{same_log, proper_log, redo_low, applied_low}
use Rattle.ag_store.proofs.Stores.{loaded_of, stands_at, image_at, redone_store, stripe-low}
use Rattle.ag_store.proofs.Stripes.{of-data, data-of}
use Rattle.ag_store.proofs.Touching.{none-here}
use Rattle.ag_store.proofs.Values.{ahead-in-cut}

-- the end of the next block is one, or where it started from
pub next-is-end : (lsn : ℕ) (es : List ℕ) → contains lsn es ≡ true → contains (next_end lsn es) es ≡ true
next-is-end lsn es is = go es (λ e h. h)
  where
    pick : (b : Bool) (e n : ℕ) → contains e es ≡ true → contains n es ≡ true → contains (if b then e else n) es ≡ true
    pick true e n h k = h
    pick false e n h k = k

    go : (fs : List ℕ) → ((e : ℕ) → contains e fs ≡ true → contains e es ≡ true) → contains (next_end lsn fs) es ≡ true
    go [] all = is
    go (f ∷ fs) all = pick (nat_lt lsn f) f (next_end lsn fs) (all f (or_left (eqb f f) (contains f fs) (eq-eqb f f refl))) (go fs (λ e h. all e (or_right (eqb e f) (contains e fs) h)))

-- what stands at an index doesn't depend on what stands for none
get-any : (xs : List ℕ) (i d e : ℕ) → i < length xs → get_or xs i d ≡ get_or xs i e
get-any [] i d e lt = absurd (omega (arith, lt))
get-any (x ∷ xs) zero d e lt = refl
get-any (x ∷ xs) (suc i) d e lt = get-any xs i d e (omega (arith, lt))

all-same : (P : ℕ → Type 0) (n a : ℕ) → P a → AllByRecursion P (replicate n a)
all-same P zero a h = tt
all-same P (suc n) a h = (h, all-same P n a h)

-- stripes that all stand at one end
pub ends-all : (kept : Kept) (applied : List ℕ) (end : ℕ) → applied ≡ replicate 16 end → IsBlockEnd kept.log end → kept.redo ≤ end → AreAtEnds kept applied
ends-all kept applied end e is low = subst (AreAtEnds kept) (sym e) (record { sixteen = length-replicate 16 end; ends = all-same (λ n. IsBlockEnd kept.log n × (kept.redo ≤ n)) 16 end (is, low) })

or-none : (b : Bool) → b ≡ (b || false)
or-none true = refl
or-none false = refl

-- what is seen of a store once its pages were redone
pub seen-redone : {D : Type 0} (reads : D → Image) (disk new : ScriptedView D) (pages : ℕ) (m : MemoryView) (v : PagesView) (sound : Bool) (before now : ℕ) (applied : List ℕ) (dirty : List Bool)
    → reads_of reads new ≡ reads_of reads disk → v.applied ≡ applied → map (is_dirty v) (page_numbers pages) ≡ dirty
    → store_on (reads_of reads new) pages (Some (record { log = m.log; pages = v; redo = m.redo })) sound now ≡ record (store_on (reads_of reads disk) pages (Some m) sound before) { applied = applied; dirty = dirty; faults = now }
seen-redone reads disk new pages m v sound before now applied dirty same a d =
    λ i. record { kept = kept_on (same i) true; pages = pages; cells = cells_on (same i) pages; applied = a i; dirty = d i; sound = sound; faults = now }

module _ {D : Type 0} (size : D → ℕ) (keeps : D → Bool) (reads : D → Image) (may_hold : D → ℕ → Content → Type 0) (disk : ScriptedView D) (pages : ℕ) (memory : Option MemoryView) (sound : Bool) (m : MemoryView) (st : IsStore size keeps reads may_hold disk pages memory sound) (is_sound : sound ≡ true) (has : memory ≡ Some m) where
  abbrev image : Image
  image = reads_of reads disk

  abbrev kept : Kept
  kept = kept_on (reads_of reads disk) true

  log_is : kept.log ≡ m.log.log
  log_is = same_log size keeps reads may_hold disk pages memory sound m st is_sound has

  count_is : m.pages.count ≡ pages
  count_is = (loaded_of size keeps reads may_hold disk pages memory sound m st is_sound has).count

  -- what redo needs
  pub redo_proper : IsProper m.pages.count m.log.log
  redo_proper = subst (λ (l : Log). IsProper m.pages.count l) log_is (subst (λ n. IsProper n kept.log) (sym count_is) (proper_log size keeps reads may_hold disk pages memory sound m st is_sound has))

  at_value : (page : ℕ) → IsDataPage m.pages.count page → known_of (told_on image) m.pages page ≡ Value (value m.pages.count m.log.log.records (applied_of m.pages (stripe_of page)) page)
  at_value page is =
      (loaded_of size keeps reads may_hold disk pages memory sound m st is_sound has).values page (is.0, subst (λ n. page < 16 + n) count_is is.1)
      ∙ ap (λ (l : Log). Value (value pages l.records (applied_of m.pages (stripe_of page)) page)) log_is
      ∙ ap (λ (n : ℕ). Value (value n m.log.log.records (applied_of m.pages (stripe_of page)) page)) (sym count_is)

  -- where the end of the next block is
  pub next_is_end : (stripe : ℕ) → stripe < 16 → IsBlockEnd m.log.log (next_end (applied_of m.pages stripe) m.log.log.ends)
  next_is_end stripe lt = next-is-end (applied_of m.pages stripe) m.log.log.ends
      (subst (λ (l : Log). IsBlockEnd l (applied_of m.pages stripe)) log_is (stands_at size keeps reads may_hold disk pages memory sound m st is_sound has stripe lt).0)

  pub ahead_one : (stripe end : ℕ) → IsBlockEnd m.log.log end → applied_of m.pages stripe ≤ end → (page : ℕ) → is_of m.pages stripe page ≡ true → IsAhead m.pages.count (cut_at end m.log.log) (applied_of m.pages stripe) page (known_of (told_on image) m.pages page)
  ahead_one stripe end is le page own =
      let a = of-data m.pages stripe page own in
      ahead-in-cut m.pages.count m.log.log (applied_of m.pages stripe) end page (known_of (told_on image) m.pages page) redo_proper is le
      (at_value page a.0 ∙ ap (λ (s : ℕ). Value (value m.pages.count m.log.log.records (applied_of m.pages s) page)) a.1)

  pub within_all : (stripe : ℕ) → stripe < 16 → applied_of m.pages stripe ≤ end_of m.log.log
  within_all stripe lt = subst (λ (l : Log). applied_of m.pages stripe ≤ end_of l) log_is (applied_low size keeps reads may_hold disk pages memory sound m st is_sound has stripe lt)

  pub ahead_all : (page : ℕ) → IsDataPage m.pages.count page → IsAhead m.pages.count m.log.log (applied_of m.pages (stripe_of page)) page (known_of (told_on image) m.pages page)
  ahead_all page is = record {
    lsn = applied_of m.pages (stripe_of page);
    low = omega arith;
    high = within_all (stripe_of page) (stripe-low page);
    value = at_value page is;
  }

  data_in : (page : ℕ) → IsDataPage pages page → IsDataPage m.pages.count page
  data_in page is = (is.0, subst (λ n. page < 16 + n) (sym count_is) is.1)

  -- one stripe
  module _ (stripe end : ℕ) (lt : stripe < 16) (is_end : IsBlockEnd m.log.log end) (low : applied_of m.pages stripe ≤ end) (new : ScriptedView D) (v : PagesView) (shows : ShowsSame keeps reads may_hold disk new) (room : log_end ≤ size new.disk) (one : IsRedone image m.log.log stripe end m.pages v) where
    sixteen : length m.pages.applied ≡ 16
    sixteen = (loaded_of size keeps reads may_hold disk pages memory sound m st is_sound has).ends.sixteen

    there : applied_of v stripe ≡ end
    there = ap (λ (xs : List ℕ). get_or xs stripe 0) one.applied ∙ get_or-set_same m.pages.applied stripe end 0 (omega (arith, sixteen, lt))

    elsewhere : (other : ℕ) → (other ≡ stripe → ⊥) → applied_of v other ≡ applied_of m.pages other
    elsewhere other ne = ap (λ (xs : List ℕ). get_or xs other 0) one.applied ∙ get_or-set_other m.pages.applied stripe other end 0 ne

    stands : (other : ℕ) → other < 16 → IsBlockEnd kept.log (applied_of v other) × (kept.redo ≤ applied_of v other)
    stands other below =
        let before = stands_at size keeps reads may_hold disk pages memory sound m st is_sound has in
        elim (cases_eq other stripe) [
          | inl same ↦
              let e : applied_of v other ≡ end = ap (applied_of v) same ∙ there in
              (subst (λ n. IsBlockEnd kept.log n) (sym e) (subst (λ (l : Log). IsBlockEnd l end) (sym log_is) is_end), omega (arith, e, low, (before stripe lt).1))
          | inr ne ↦ subst (λ n. IsBlockEnd kept.log n × (kept.redo ≤ n)) (sym (elsewhere other ne)) (before other below)
        ]

    ends_then : AreAtEnds kept v.applied
    ends_then =
        let long : length v.applied ≡ 16 = ap (λ (xs : List ℕ). length xs) one.applied ∙ length-set m.pages.applied stripe end ∙ sixteen in
        record {
          sixteen = long;
          ends = recursion_from_All (λ n. IsBlockEnd kept.log n × (kept.redo ≤ n)) v.applied (λ i d below.
              subst (λ n. IsBlockEnd kept.log n × (kept.redo ≤ n)) (get-any v.applied i 0 d below) (stands i (omega (arith, long, below))));
        }

    values_then : AreValues pages image kept v
    values_then page is = elim (cases_eq (stripe_of page) stripe) [
      | inl same ↦
          one.values page (data-of m.pages stripe page (data_in page is) same)
          ∙ ap (λ (n : ℕ). Value (value n m.log.log.records end page)) count_is
          ∙ ap (λ (l : Log). Value (value pages l.records end page)) (sym log_is)
          ∙ ap (λ (n : ℕ). Value (value pages kept.log.records n page)) (sym there ∙ ap (applied_of v) (sym same))
      | inr ne ↦
          one.others page (ne_eqb (stripe_of page) stripe ne)
          ∙ (loaded_of size keeps reads may_hold disk pages memory sound m st is_sound has).values page is
          ∙ ap (λ (n : ℕ). Value (value pages kept.log.records n page)) (sym (elsewhere (stripe_of page) ne))
    ]

    dirty_same : (page : ℕ) → IsDataPage pages page → stripe_of page ≡ stripe → is_dirty v page ≡ (is_dirty m.pages page || is_touched_between pages kept.log.records page (applied_of m.pages stripe) end)
    dirty_same page is same =
        one.dirty page (data-of m.pages stripe page (data_in page is) same)
        ∙ ap (λ (n : ℕ). is_dirty m.pages page || is_touched_between n m.log.log.records page (applied_of m.pages stripe) end) count_is
        ∙ ap (λ (l : Log). is_dirty m.pages page || is_touched_between pages l.records page (applied_of m.pages stripe) end) (sym log_is)

    dirty_then : (page : ℕ) → IsDataPage pages page → is_dirty v page ≡ (is_dirty m.pages page || is_touched_between pages kept.log.records page (applied_of m.pages (stripe_of page)) (applied_of v (stripe_of page)))
    dirty_then page is = elim (cases_eq (stripe_of page) stripe) [
      | inl same ↦
          dirty_same page is same
          ∙ ap (λ (n : ℕ). is_dirty m.pages page || is_touched_between pages kept.log.records page (applied_of m.pages stripe) n) (sym there)
          ∙ ap (λ (s : ℕ). is_dirty m.pages page || is_touched_between pages kept.log.records page (applied_of m.pages s) (applied_of v s)) (sym same)
      | inr ne ↦
          one.others_dirty page (ne_eqb (stripe_of page) stripe ne)
          ∙ or-none (is_dirty m.pages page)
          ∙ ap (λ (b : Bool). is_dirty m.pages page || b) (sym (nothing (applied_of m.pages (stripe_of page)) page))
          ∙ ap (λ (n : ℕ). is_dirty m.pages page || is_touched_between pages kept.log.records page (applied_of m.pages (stripe_of page)) n) (sym (elsewhere (stripe_of page) ne))
    ]
      where
        nothing : (n page : ℕ) → is_touched_between pages kept.log.records page n n ≡ false
        nothing n page = none-here (touches pages page) n kept.log.records

    pub applied_store : IsStore size keeps reads may_hold new pages (Some (record { log = m.log; pages = v; redo = m.redo })) sound
    applied_store =
        let loaded = loaded_of size keeps reads may_hold disk pages memory sound m st is_sound has in
        redone_store size keeps reads may_hold disk pages memory sound st m.log loaded.log m.redo loaded.redo (λ page. applied_of m.pages (stripe_of page)) (is_dirty m.pages)
        (image_at size keeps reads may_hold disk pages memory sound m st is_sound has) new v shows room (one.count ∙ count_is) ends_then values_then dirty_then

    pub applied_flags : map (is_dirty v) (page_numbers pages) ≡ set_where (λ page. (stripe_of page == stripe) && is_touched_between pages kept.log.records page (applied_of m.pages stripe) end) 16 (map (is_dirty m.pages) (page_numbers pages))
    applied_flags = flags-set (λ page. (stripe_of page == stripe) && is_touched_between pages kept.log.records page (applied_of m.pages stripe) end) (is_dirty m.pages) (is_dirty v) 16 pages (λ page low high.
        elim (cases_eq (stripe_of page) stripe) [
          | inl same ↦
              dirty_same page (low, high) same
              ∙ ap (λ (b : Bool). is_dirty m.pages page || (b && is_touched_between pages kept.log.records page (applied_of m.pages stripe) end)) (sym (eq-eqb (stripe_of page) stripe same))
          | inr ne ↦
              one.others_dirty page (ne_eqb (stripe_of page) stripe ne)
              ∙ or-none (is_dirty m.pages page)
              ∙ ap (λ (b : Bool). is_dirty m.pages page || (b && is_touched_between pages kept.log.records page (applied_of m.pages stripe) end)) (sym (ne_eqb (stripe_of page) stripe ne))
        ])

  -- all stripes
  module _ (new : ScriptedView D) (v : PagesView) (shows : ShowsSame keeps reads may_hold disk new) (room : log_end ≤ size new.disk) (all : AreRedone image m.log.log m.pages v) where
    end_is : end_of m.log.log ≡ end_of kept.log
    end_is = ap (λ (l : Log). end_of l) (sym log_is)

    stands_all : (stripe : ℕ) → stripe < 16 → applied_of v stripe ≡ end_of kept.log
    stands_all stripe lt = ap (λ (xs : List ℕ). get_or xs stripe 0) all.applied ∙ get_or-replicate 16 stripe (end_of m.log.log) 0 lt ∙ end_is

    dirty_all : (page : ℕ) → IsDataPage pages page → is_dirty v page ≡ (is_dirty m.pages page || is_touched_between pages kept.log.records page (applied_of m.pages (stripe_of page)) (end_of kept.log))
    dirty_all page is =
        all.dirty page (data_in page is)
        ∙ ap (λ (n : ℕ). is_dirty m.pages page || is_touched_between n m.log.log.records page (applied_of m.pages (stripe_of page)) (end_of m.log.log)) count_is
        ∙ ap (λ (l : Log). is_dirty m.pages page || is_touched_between pages l.records page (applied_of m.pages (stripe_of page)) (end_of l)) (sym log_is)

    pub redone_all_store : IsStore size keeps reads may_hold new pages (Some (record { log = m.log; pages = v; redo = m.redo })) sound
    redone_all_store =
        let loaded = loaded_of size keeps reads may_hold disk pages memory sound m st is_sound has in
        let proper = proper_log size keeps reads may_hold disk pages memory sound m st is_sound has in
        redone_store size keeps reads may_hold disk pages memory sound st m.log loaded.log m.redo loaded.redo (λ page. applied_of m.pages (stripe_of page)) (is_dirty m.pages)
        (image_at size keeps reads may_hold disk pages memory sound m st is_sound has) new v shows room (all.count ∙ count_is)
        (ends-all kept v.applied (end_of kept.log) (all.applied ∙ ap (replicate 16) end_is) (end_last pages kept.log proper) (redo_low size keeps reads may_hold disk pages memory sound m st is_sound has))
        (λ page is.
        all.values page (data_in page is)
        ∙ ap (λ (n : ℕ). Value (value n m.log.log.records (end_of m.log.log) page)) count_is
        ∙ ap (λ (l : Log). Value (value pages l.records (end_of l) page)) (sym log_is)
        ∙ ap (λ (n : ℕ). Value (value pages kept.log.records n page)) (sym (stands_all (stripe_of page) (stripe-low page))))
        (λ page is.
        dirty_all page is
        ∙ ap (λ (n : ℕ). is_dirty m.pages page || is_touched_between pages kept.log.records page (applied_of m.pages (stripe_of page)) n) (sym (stands_all (stripe_of page) (stripe-low page))))

    pub redone_all_flags : map (is_dirty v) (page_numbers pages) ≡ set_where (λ page. is_touched_between pages kept.log.records page (applied_of m.pages (stripe_of page)) (end_of kept.log)) 16 (map (is_dirty m.pages) (page_numbers pages))
    redone_all_flags = flags-set (λ page. is_touched_between pages kept.log.records page (applied_of m.pages (stripe_of page)) (end_of kept.log)) (is_dirty m.pages) (is_dirty v) 16 pages (λ page low high. dirty_all page (low, high))
