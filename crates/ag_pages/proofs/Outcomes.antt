-- What a flush leaves.
use Rattle.std.proofs.Common.{◌≡◌, ℕ, ◌+◌, Bool, true, false, cond, leb, ltb, List, [], ◌∷◌, ◌++◌, map, refl, sym, ap, subst, ◌∙◌}
use Rattle.std.specs.Prelude.{Option, Some, None}
use Rattle.std.specs.List.{concat, fold}
use Rattle.std.proofs.lemmas.Bool.{and_from, and_parts, le-leb, leb-true, lt-ltb, ltb-true, false_from_ne_true, false≢true}
use Rattle.ag_model.specs.declared.value.PageValue.{PageValue}
use Rattle.ag_model.specs.Cells.{written_cells}
use Rattle.ag_model.specs.Rows.{contains}
use Rattle.ag_outside.specs.Calls.{Call}
use Rattle.ag_outside.specs.Disks.{Content, Image, Only}
use Rattle.ag_page.specs.Home.{cells_of, written_over}
use Rattle.ag_page.specs.Spelling.{IsInRange}
use Rattle.ag_pagestore.specs.Places.{image_of, page_cells, IsOutside}
use Rattle.ag_pagestore.specs.Batches.{IsWhole}
use Rattle.ag_pagestore.specs.Homes.{told_images}
use Rattle.ag_pagestore.proofs.Kept.{all_cells}
use Rattle.ag_rules.specs.FlushEvent.{batch_with, unless_none, by_eights}
use Rattle.ag_stripe.specs.Known.{Told, in_home, known_by}
use Rattle.ag_stripe.specs.Known.Known.{Value}
use Rattle.ag_pages.specs.Views.{PagesView, slot, is_page, is_dirty, known_of}
use Rattle.ag_pages.specs.Flush.{HasItsImage, Flushed, dirty_pages, kept_value, page_write, page_writes, batches}
use Rattle.ag_pages.proofs.Sets.{all_made, made_at, in_at, passes, stands, within}
use Rattle.ag_pages.proofs.Batching.{start, concat-append}
use Rattle.ag_pages.proofs.Batches.{other_stays, takes_durable}
use Rattle.ag_pages.proofs.Imaging.{written_says}
use Rattle.ag_pages.proofs.Rounds.{last_one, pages-all}

pub by_eights-all : (ps : List ℕ) → concat (by_eights ps) ≡ ps
unfolding by_eights
by_eights-all ps =
    let b = fold batch_with start ps in
    concat-append b.full (unless_none b.last) ∙ ap (λ (z : List ℕ). concat b.full ++ z) (last_one b.last) ∙ pages-all start ps

either : (b : Bool) → cond b false false ≡ false
either true = refl
either false = refl

-- what is known of a page that memory keeps is the value that it keeps
known_value : (told : Told) (page : ℕ) (o : Option PageValue) (k w : PageValue) → o ≡ Some k → known_by told page o ≡ Value w → k ≡ w
known_value told page (Some x) k w is says = cc
known_value told page None k w is says = cc

map_none : {X Y : Type 0} (f : X → Y) (xs : List X) → map f xs ≡ [] → xs ≡ []
map_none f [] is = refl
map_none f (x ∷ xs) is = cc

module _ {D : Type 0} (size : D → ℕ) (keeps : D → Bool) (reads : D → Image) (may_hold : D → ℕ → Content → Type 0) (did : D → Call → D → Type 0) (old new : D) (v after : PagesView) (f : Flushed size keeps reads may_hold did old (slot v) (by_eights (dirty_pages v.count (slot v))) new (slot after)) where
  abbrev ps : List ℕ
  ps = dirty_pages v.count (slot v)

  all : concat (by_eights ps) ≡ ps
  all = by_eights-all ps

  among : (page : ℕ) → is_page v page ≡ true → is_dirty v page ≡ true → contains page ps ≡ true
  among page own dirty =
      let e = and_parts (leb 16 page) (ltb page (16 + v.count)) own in
      stands (is_dirty v) 16 v.count page (leb-true 16 page e.0) (ltb-true page (16 + v.count) e.1) dirty

  among_all : (page : ℕ) → is_page v page ≡ true → is_dirty v page ≡ true → contains page (concat (by_eights ps)) ≡ true
  among_all page own dirty = ap (contains page) all ∙ among page own dirty

  not_among : (page : ℕ) → is_dirty v page ≡ false → contains page (concat (by_eights ps)) ≡ false
  not_among page clean = ap (contains page) all ∙ false_from_ne_true (contains page ps) (λ there. false≢true (sym clean ∙ passes (is_dirty v) 16 v.count page there))

  pub all_clean : (page : ℕ) → is_page v page ≡ true → is_dirty after page ≡ false
  all_clean page own = f.dirty page ∙ by_test (is_dirty v page) refl
    where
      by_test : (d : Bool) → is_dirty v page ≡ d → cond (contains page (concat (by_eights ps))) false (is_dirty v page) ≡ false
      by_test true e = ap (λ (b : Bool). cond b false (is_dirty v page)) (among_all page own e)
      by_test false e = ap (cond (contains page (concat (by_eights ps))) false) e ∙ either (contains page (concat (by_eights ps)))

  -- what was written is a data page
  owned : (page : ℕ) → contains page (concat (by_eights ps)) ≡ true → is_page v page ≡ true
  owned page there =
      let is = within (is_dirty v) 16 v.count page (sym (ap (contains page) all) ∙ there) in
      and_from (leb 16 page) (ltb page (16 + v.count)) (le-leb 16 page is.0) (lt-ltb page (16 + v.count) is.1)

  pub other_image : (page : ℕ) → is_page v page ≡ true → is_dirty v page ≡ false → image_of (reads new) page ≡ image_of (reads old) page
  other_image page own clean = other_stays (slot v) (reads old) (reads new) page (concat (by_eights ps)) f.written (not_among page clean)

  pub cells_after : (page : ℕ) → is_page v page ≡ true → page_cells (reads new) page ≡ cond (is_dirty v page) (written_cells (page_cells (reads old) page)) (page_cells (reads old) page)
  cells_after page own = by_test (is_dirty v page) refl
    where
      by_test : (d : Bool) → is_dirty v page ≡ d → page_cells (reads new) page ≡ cond d (written_cells (page_cells (reads old) page)) (page_cells (reads old) page)
      by_test true e = made_at (λ w. page_cells (reads new) w.page ≡ written_cells (page_cells (reads old) w.page)) (page_write (slot v)) (concat (by_eights ps)) page
          (all_cells (reads old) (reads new) (page_writes (slot v) (concat (by_eights ps))) f.whole f.written.pages) (among_all page own e)
      by_test false e = ap (λ (im : List Content). cells_of im) (other_image page own e)

  pub image_after : (page : ℕ) (w : PageValue) → is_page v page ≡ true → is_dirty v page ≡ true → known_of (told_images (keeps old) (reads old)) v page ≡ Value w → w.page ≡ page → IsInRange w
      → in_home (Some (image_of (reads new))) page ≡ Value w
  image_after page w own dirty is named range =
      let there = among_all page own dirty in
      let fit = in_at (HasItsImage (slot v)) (concat (by_eights ps)) page f.fit there in
      let e = known_value (told_images (keeps old) (reads old)) page (slot v page).value (kept_value (slot v) page) w fit.0 is in
      let whole = made_at IsWhole (page_write (slot v)) (concat (by_eights ps)) page f.whole there in
      let wrote = made_at (λ x. image_of (reads new) x.page ≡ written_over (image_of (reads old) x.page) x.image) (page_write (slot v)) (concat (by_eights ps)) page f.written.pages there in
      written_says (reads new) (image_of (reads old) page) page (kept_value (slot v) page) fit.1 (subst IsInRange (sym e) range) (ap (λ (x : PageValue). x.page) e ∙ named) whole.0 whole.1 wrote
      ∙ ap (λ (x : PageValue). Value x) e

  pub sector_after : (at : ℕ) → ((page : ℕ) → is_page v page ≡ true → is_dirty v page ≡ true → IsOutside page at) → reads new at ≡ reads old at
  sector_after at out = f.written.others at (all_made (λ w. IsOutside w.page at) (page_write (slot v)) (concat (by_eights ps)) (λ p there. out p (owned p there) (passes (is_dirty v) 16 v.count p (sym (ap (contains p) all) ∙ there))))

  pub durable_after : (((page : ℕ) → is_page v page ≡ true → is_dirty v page ≡ false) → Only (reads old) (may_hold old)) → Only (reads new) (may_hold new)
  durable_after only = takes_durable size keeps reads may_hold did (batches v) old new f.calls (λ none. only (λ page own.
      let nothing : ps ≡ [] = sym all ∙ ap concat (map_none (page_writes (slot v)) (by_eights ps) none) in
      false_from_ne_true (is_dirty v page) (λ dirty. false≢true (sym (ap (contains page) nothing) ∙ among page own dirty))))
