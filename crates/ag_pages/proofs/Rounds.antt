-- The dirty pages, one after the other.
use Rattle.std.proofs.Common.{◌≡◌, ℕ, zero, suc, ◌+◌, ◌-◌, ◌<◌, ◌≤◌, Bool, true, false, cond, ltb, leb, List, [], ◌∷◌, ◌++◌, map, length, append_assoc, refl, sym, ap, subst, ◌∙◌, arith}
use Rattle.std.specs.List.{concat, filter, fold, range_with_len}
use Rattle.std.proofs.lemmas.Bool.{and_from, or_left, or_right, lt-ltb, le-leb, ltb-true, false_from_ne_true}
use Rattle.std.proofs.lemmas.List.{append-nil, map-append, length-append}
use Rattle.std.proofs.lemmas.List.Elements.{filter-append}
use Rattle.std.proofs.lemmas.List.Sums.{fold-append}
use Rattle.ag_model.specs.Rows.{contains}
use Rattle.ag_outside.specs.Calls.{Call}
use Rattle.ag_outside.specs.Disks.{Content, Image}
use Rattle.ag_pagestore.specs.declared.batch.PageWrite.{PageWrite}
use Rattle.ag_rules.specs.FlushEvent.{Batching, batch_with, batched, unless_none, by_eights}
use Rattle.ag_pages.specs.Views.{PagesView, slot, is_dirty}
use Rattle.ag_pages.specs.Flush.{Rise, IsInMemory, IsToWrite, IsDirtyBatch, Flushed, BreaksOff, dirty_pages, page_writes, one_more, one_more_if, batches}
use Rattle.ag_pages.proofs.Sets.{contains-append, all_in, rise_first, rise_then, rise_apart, rise_filter, passes, within}
use Rattle.ag_pages.proofs.Batching.{start, concat-append, pages_of, pages-with, in_front, with-front, goes_on}
use Rattle.ag_pages.proofs.Batches.{breaks_later, breaks_before}
use Rattle.ag_pages.proofs.Flushing.{AreHeld, batches_same, flushed_both}

-- ---- what was put into batches

pub last_one : (l : List ℕ) → concat (unless_none l) ≡ l
last_one [] = refl
last_one (p ∷ ps) = append-nil (p ∷ ps)

few_with : (b : Batching) (p : ℕ) → length b.last ≤ 8 → length (batch_with b p).last ≤ 8
few_with b p few = by_test (ltb (length b.last) 8) refl
  where
    by_test : (t : Bool) → ltb (length b.last) 8 ≡ t → length (cond t (record b { last = b.last ++ p ∷ [] }) (record { full = b.full ++ b.last ∷ []; last = p ∷ [] })).last ≤ 8
    by_test true e = omega (arith, ltb-true (length b.last) 8 e, length-append b.last (p ∷ []))
    by_test false e = omega arith

few_all : (b : Batching) (ps : List ℕ) → length b.last ≤ 8 → length (fold batch_with b ps).last ≤ 8
few_all b [] few = few
few_all b (p ∷ ps) few = few_all (batch_with b p) ps (few_with b p few)

pub pages-all : (b : Batching) (ps : List ℕ) → pages_of (fold batch_with b ps) ≡ pages_of b ++ ps
pages-all b [] = sym (append-nil (pages_of b))
pages-all b (p ∷ ps) = pages-all (batch_with b p) ps ∙ ap (λ (z : List ℕ). z ++ ps) (pages-with b p) ∙ append_assoc (pages_of b) (p ∷ []) ps

-- one page more than some batches
front_more : (b : Batching) (p : ℕ) → batch_with b p ≡ in_front b.full (one_more b.last p)
front_more b p = ap (λ (z : List (List ℕ)). batch_with (with_full z b.last) p) (sym (append-nil b.full)) ∙ with-front b.full (with_full [] b.last) p
  where
    with_full : List (List ℕ) → List ℕ → Batching
    with_full z last = record { full = z; last = last }

front_none : (b : Batching) → b ≡ in_front b.full (record { full = []; last = b.last })
front_none b = ap (λ (z : List (List ℕ)). with_full z b.last) (sym (append-nil b.full))
  where
    with_full : List (List ℕ) → List ℕ → Batching
    with_full z last = record { full = z; last = last }

range_split : (a m k : ℕ) → range_with_len a (m + k) ≡ range_with_len a m ++ range_with_len (a + m) k
range_split a zero k = (let e : 0 + k ≡ k = omega arith in let f : a ≡ a + 0 = omega arith in ap (range_with_len a) e ∙ ap (λ (x : ℕ). range_with_len x k) f)
range_split a (suc m) k =
    let e : suc m + k ≡ suc (m + k) = omega arith in
    let f : a + 1 + m ≡ a + suc m = omega arith in
    ap (range_with_len a) e ∙ ap (λ (z : List ℕ). a ∷ z) (range_split (a + 1) m k) ∙ ap (λ (x : ℕ). a ∷ (range_with_len (a + 1) m ++ range_with_len x k)) f

-- the dirty pages below a page
module _ (v : PagesView) where
  abbrev pub below : ℕ → List ℕ
  below n = filter (is_dirty v) (range_with_len 16 n)

  -- the batches so far
  abbrev pub so_far : ℕ → Batching
  so_far n = fold batch_with start (below n)

  pub few_far : (n : ℕ) → length (so_far n).last ≤ 8
  few_far n = few_all start (below n) (omega arith)

  pages_far : (n : ℕ) → pages_of (so_far n) ≡ below n
  pages_far n = pages-all start (below n)

  range_end : (a n : ℕ) → range_with_len a (n + 1) ≡ range_with_len a n ++ (a + n) ∷ []
  range_end a zero = ap (λ (k : ℕ). k ∷ []) (let e : a ≡ a + 0 = omega arith in e)
  range_end a (suc n) =
      let e : suc n + 1 ≡ suc (n + 1) = omega arith in
      let m : a + 1 + n ≡ a + suc n = omega arith in
      ap (range_with_len a) e ∙ ap (λ (z : List ℕ). a ∷ z) (range_end (a + 1) n) ∙ ap (λ (k : ℕ). a ∷ (range_with_len (a + 1) n ++ k ∷ [])) m

  below_more : (n : ℕ) → below (n + 1) ≡ below n ++ cond (is_dirty v (16 + n)) ((16 + n) ∷ []) []
  below_more n = ap (filter (is_dirty v)) (range_end 16 n) ∙ filter-append (is_dirty v) (range_with_len 16 n) ((16 + n) ∷ [])

  -- one page more
  pub far_more : (n : ℕ) → so_far (n + 1) ≡ in_front (so_far n).full (one_more_if (is_dirty v (16 + n)) (so_far n).last (16 + n))
  far_more n = ap (fold batch_with start) (below_more n) ∙ fold-append batch_with start (below n) (cond (is_dirty v (16 + n)) ((16 + n) ∷ []) []) ∙ by_test (is_dirty v (16 + n))
    where
      by_test : (b : Bool) → fold batch_with (so_far n) (cond b ((16 + n) ∷ []) []) ≡ in_front (so_far n).full (one_more_if b (so_far n).last (16 + n))
      by_test true = front_more (so_far n) (16 + n)
      by_test false = front_none (so_far n)

  in_below : (n q : ℕ) → contains q (pages_of (so_far n)) ≡ true → contains q (below n) ≡ true
  in_below n q there = sym (ap (contains q) (pages_far n)) ∙ there

  pub in_full : (n q : ℕ) → contains q (concat (so_far n).full) ≡ true → contains q (below n) ≡ true
  in_full n q there = in_below n q (contains-append q (concat (so_far n).full) (so_far n).last ∙ or_left _ _ there)

  pub in_last : (n q : ℕ) → contains q (so_far n).last ≡ true → contains q (below n) ≡ true
  in_last n q there = in_below n q (contains-append q (concat (so_far n).full) (so_far n).last ∙ or_right _ _ there)

  -- those from a page on
  abbrev rest : ℕ → List ℕ
  rest n = filter (is_dirty v) (range_with_len (16 + n) (v.count - n))

  whole_is : (n : ℕ) → n ≤ v.count → by_eights (dirty_pages v.count (slot v)) ≡ batched (fold batch_with (so_far n) (rest n))
  unfolding by_eights
  whole_is n le =
      let e : v.count ≡ n + (v.count - n) = omega (arith, le) in
      ap (λ (k : ℕ). batched (fold batch_with start (filter (is_dirty v) (range_with_len 16 k)))) e
      ∙ ap (λ (ps : List ℕ). batched (fold batch_with start (filter (is_dirty v) ps))) (range_split 16 n (v.count - n))
      ∙ ap (λ (ps : List ℕ). batched (fold batch_with start ps)) (filter-append (is_dirty v) (range_with_len 16 n) (range_with_len (16 + n) (v.count - n)))
      ∙ ap batched (fold-append batch_with start (below n) (rest n))

  rises : (n : ℕ) → n ≤ 2048 → Rise 16 (concat (so_far n).full ++ (so_far n).last)
  rises n le = subst (Rise 16) (sym (pages_far n)) (rise_filter (is_dirty v) 16 n (omega (arith, le)))

  -- ---- on the way

  module _ {D : Type 0} (size : D → ℕ) (keeps : D → Bool) (reads : D → Image) (may_hold : D → ℕ → Content → Type 0) (did : D → Call → D → Type 0) (old : D) where
    -- the batches that are full were written, and the last one waits
    pub record IsUnderWay (n : ℕ) (disk : D) (now : PagesView) (batch : List ℕ) : Type 0 where
      pub flushed : Flushed size keeps reads may_hold did old (slot v) (so_far n).full disk (slot now)
      pub waits : batch ≡ (so_far n).last

    module _ (held : (q : ℕ) → is_dirty v q ≡ true → IsInMemory (slot v) q) (most : v.count ≤ 2048) (n : ℕ) (disk : D) (now : PagesView) (batch : List ℕ) (w : IsUnderWay n disk now batch) where
      -- the next page is as dirty as it was
      pub as_dirty : is_dirty now (16 + n) ≡ is_dirty v (16 + n)
      as_dirty =
          w.flushed.dirty (16 + n)
          ∙ ap (λ (b : Bool). cond b false (is_dirty v (16 + n))) (false_from_ne_true (contains (16 + n) (concat (so_far n).full)) (λ there.
          let is = within (is_dirty v) 16 n (16 + n) (in_full n (16 + n) there) in
          absurd (let lt = is.1 in omega (arith, lt))))

      -- the waiting pages can be written
      pub can_write : n ≤ v.count → now.count ≡ v.count → 0 < length batch → IsDirtyBatch now batch
      can_write le same some = subst (IsDirtyBatch now) (sym w.waits) (record {
        some = omega (arith, some, ap length w.waits);
        few = few_far n;
        rises = rise_then 16 (concat (so_far n).full) (so_far n).last (rises n (omega (arith, le, most)));
        each = all_in (IsToWrite now) (so_far n).last (λ q there.
            let here = in_last n q there in
            let is = within (is_dirty v) 16 n q here in
            let dirty = passes (is_dirty v) 16 n q here in
            let m = held q dirty in
            let low : 16 ≤ q = is.0 in
            let high : q < 16 + now.count = (let lt = is.1 in omega (arith, lt, le, same)) in
            record {
              own = and_from (leb 16 q) (ltb q (16 + now.count)) (le-leb 16 q low) (lt-ltb q (16 + now.count) high);
              dirty = w.flushed.dirty q ∙ ap (λ (b : Bool). cond b false (is_dirty v q)) (false_from_ne_true (contains q (concat (so_far n).full)) (λ other. rise_apart 16 q (concat (so_far n).full) (so_far n).last (rises n (omega (arith, le, most))) other there)) ∙ dirty;
              value = (m.0, w.flushed.kept q m.0 m.1);
            });
      })

      -- one page more
      module _ (lt : n < v.count) (later : D) (next : PagesView) (more : List ℕ) where
        abbrev step : Batching
        step = one_more_if (is_dirty v (16 + n)) (so_far n).last (16 + n)

        full_more : (so_far (n + 1)).full ≡ (so_far n).full ++ step.full
        full_more = ap (λ (b : Batching). b.full) (far_more n)

        apart : (q : ℕ) → contains q (concat (so_far n).full) ≡ true → contains q (concat step.full) ≡ true → ⊥
        apart q = rise_apart 16 q (concat (so_far n).full) (concat step.full)
            (subst (Rise 16) (ap concat full_more ∙ concat-append (so_far n).full step.full) (rise_first 16 (concat (so_far (n + 1)).full) (so_far (n + 1)).last (rises (n + 1) (omega (arith, lt, most)))))

        step_held : AreHeld (slot v) (concat step.full)
        step_held q there = held q (passes (is_dirty v) 16 (n + 1) q (in_full (n + 1) q
            (ap (contains q) (ap concat full_more ∙ concat-append (so_far n).full step.full) ∙ contains-append q (concat (so_far n).full) (concat step.full) ∙ or_right _ _ there)))

        pub way_on : Flushed size keeps reads may_hold did disk (slot now) (one_more_if (is_dirty now (16 + n)) batch (16 + n)).full later (slot next)
            → more ≡ (one_more_if (is_dirty now (16 + n)) batch (16 + n)).last → IsUnderWay (n + 1) later next more
        way_on did_step waits =
            let same : one_more_if (is_dirty now (16 + n)) batch (16 + n) ≡ step = ap (λ (b : Bool). one_more_if b batch (16 + n)) as_dirty ∙ ap (λ (l : List ℕ). one_more_if (is_dirty v (16 + n)) l (16 + n)) w.waits in
            record {
              flushed = subst (λ (bs : List (List ℕ)). Flushed size keeps reads may_hold did old (slot v) bs later (slot next)) (sym full_more)
                  (flushed_both size keeps reads may_hold did old disk later (slot v) (slot now) (slot next) (so_far n).full step.full w.flushed
                  (subst (λ (b : Batching). Flushed size keeps reads may_hold did disk (slot now) b.full later (slot next)) same did_step) apart step_held);
              waits = waits ∙ ap (λ (b : Batching). b.last) same ∙ sym (ap (λ (b : Batching). b.last) (far_more n));
            }

        -- the disk failed on the way of the next batch
        pub way_breaks : BreaksOff size keeps reads may_hold did disk (map (page_writes (slot now)) (one_more_if (is_dirty now (16 + n)) batch (16 + n)).full) later → BreaksOff size keeps reads may_hold did old (batches v) later
        way_breaks broke =
            let same : one_more_if (is_dirty now (16 + n)) batch (16 + n) ≡ step = ap (λ (b : Bool). one_more_if b batch (16 + n)) as_dirty ∙ ap (λ (l : List ℕ). one_more_if (is_dirty v (16 + n)) l (16 + n)) w.waits in
            let own = subst (λ (bs : List (List PageWrite)). BreaksOff size keeps reads may_hold did disk bs later) (ap (λ (b : Batching). map (page_writes (slot now)) b.full) same ∙ batches_same (slot v) (slot now) w.flushed.kept step.full step_held) broke in
            let both = breaks_later size keeps reads may_hold did (map (page_writes (slot v)) (so_far n).full) (map (page_writes (slot v)) step.full) old disk later w.flushed.calls own in
            let on = goes_on (so_far (n + 1)) (rest (n + 1)) in
            let all : by_eights (dirty_pages v.count (slot v)) ≡ ((so_far n).full ++ step.full) ++ on.more = whole_is (n + 1) (omega (arith, lt)) ∙ on.is ∙ ap (λ (z : List (List ℕ)). z ++ on.more) full_more in
            subst (λ (bs : List (List PageWrite)). BreaksOff size keeps reads may_hold did old bs later)
            (sym (ap (map (page_writes (slot v))) all ∙ map-append (page_writes (slot v)) ((so_far n).full ++ step.full) on.more ∙ ap (λ (z : List (List PageWrite)). z ++ map (page_writes (slot v)) on.more) (map-append (page_writes (slot v)) (so_far n).full step.full)))
            (breaks_before size keeps reads may_hold did (map (page_writes (slot v)) (so_far n).full ++ map (page_writes (slot v)) step.full) (map (page_writes (slot v)) on.more) old later both)

      -- the last batch
      module _ (whole : n ≡ v.count) (later : D) (next : PagesView) where
        all_is : by_eights (dirty_pages v.count (slot v)) ≡ (so_far n).full ++ unless_none (so_far n).last
        unfolding by_eights
        all_is = ap (λ (k : ℕ). batched (so_far k)) (sym whole)

        in_end : (q : ℕ) → contains q (concat (unless_none (so_far n).last)) ≡ true → contains q (so_far n).last ≡ true
        in_end q there = sym (ap (contains q) (last_one (so_far n).last)) ∙ there

        end_held : AreHeld (slot v) (concat (unless_none (so_far n).last))
        end_held q there = held q (passes (is_dirty v) 16 n q (in_last n q (in_end q there)))

        pub way_ends : Flushed size keeps reads may_hold did disk (slot now) (unless_none batch) later (slot next) → Flushed size keeps reads may_hold did old (slot v) (by_eights (dirty_pages v.count (slot v))) later (slot next)
        way_ends did_last =
            subst (λ (bs : List (List ℕ)). Flushed size keeps reads may_hold did old (slot v) bs later (slot next)) (sym all_is)
            (flushed_both size keeps reads may_hold did old disk later (slot v) (slot now) (slot next) (so_far n).full (unless_none (so_far n).last) w.flushed
            (subst (λ (l : List ℕ). Flushed size keeps reads may_hold did disk (slot now) (unless_none l) later (slot next)) w.waits did_last)
            (λ q one other. rise_apart 16 q (concat (so_far n).full) (so_far n).last (rises n (omega (arith, whole, most))) one (in_end q other))
            end_held)

        pub end_breaks : BreaksOff size keeps reads may_hold did disk (map (page_writes (slot now)) (unless_none batch)) later → BreaksOff size keeps reads may_hold did old (batches v) later
        end_breaks broke =
            let own = subst (λ (bs : List (List PageWrite)). BreaksOff size keeps reads may_hold did disk bs later) (ap (λ (l : List ℕ). map (page_writes (slot now)) (unless_none l)) w.waits ∙ batches_same (slot v) (slot now) w.flushed.kept (unless_none (so_far n).last) end_held) broke in
            subst (λ (bs : List (List PageWrite)). BreaksOff size keeps reads may_hold did old bs later)
            (sym (ap (map (page_writes (slot v))) all_is ∙ map-append (page_writes (slot v)) (so_far n).full (unless_none (so_far n).last)))
            (breaks_later size keeps reads may_hold did (map (page_writes (slot v)) (so_far n).full) (map (page_writes (slot v)) (unless_none (so_far n).last)) old disk later w.flushed.calls own)
