-- Dirty pages on the way to their images.
use Rattle.std.proofs.Common.{◌≡◌, ℕ, ◌+◌, ◌<◌, Bool, true, false, cond, ◌||◌, ◌&&◌, eqb, ltb, leb, List, [], ◌∷◌, ◌++◌, length, take, get_or, set, refl, sym, ap, subst, ◌∙◌, arith}
use Rattle.std.specs.List.{AllByRecursion}
use Rattle.std.proofs.lemmas.List.{length-map, map-append, take_more, take_more_set}
use Rattle.std.proofs.Math.Bool.{or-false}
use Rattle.ag_lists.proofs.Each.{all_push}
use Rattle.ag_model.specs.Rows.{contains}
use Rattle.ag_outside.specs.Disks.{Image}
use Rattle.ag_pagestore.specs.declared.batch.PageWrite.{PageWrite}
use Rattle.ag_pagestore.specs.Batches.{IsWhole, IsBatch}
use Rattle.ag_pagestore.specs.Homes.{told_images}
use Rattle.ag_stripe.specs.Known.{Told}
use Rattle.ag_stripe.proofs.Readings.{says-then}
use Rattle.ag_pages.specs.Reading.{OnlyReadsIn}
use Rattle.ag_pages.specs.Views.{PagesView, slot, is_page, known_of}
use Rattle.ag_pages.specs.Flush.{IsToWrite, IsDirtyBatch, HasItsImage, page_write, page_writes}
use Rattle.ag_pages.proofs.Flushing.{write_same, fit_same, clean_both, page_write_by}
use Rattle.ag_pages.proofs.Batches.{rises_from}

-- ---- reads, one after the other

pub reads_then : (told : Told) (a b c : PagesView) → OnlyReadsIn told a b → OnlyReadsIn told b c → OnlyReadsIn told a c
reads_then told a b c first then = record {
  count = then.count ∙ first.count;
  applied = then.applied ∙ first.applied;
  dirty = λ page. then.dirty page ∙ first.dirty page;
  kept = λ page v is. then.kept page v (first.kept page v is);
  known = λ page. says-then (known_of told a page) (known_of told b page) (known_of told c page) (first.known page) (then.known page);
}

-- what is told stays where the disk was only read
pub told_same : (ka kb : Bool) (a b : Image) → kb ≡ ka → b ≡ a → told_images kb b ≡ told_images ka a
told_same ka kb a b k r = ap (λ (x : Bool). told_images x b) k ∙ ap (told_images ka) r

-- a page that is to be written still is, after reads
pub page_same : (a b : PagesView) (page : ℕ) → b.count ≡ a.count → is_page a page ≡ true → is_page b page ≡ true
page_same a b page same is = ap (λ (n : ℕ). leb 16 page && ltb page (16 + n)) same ∙ is

pub to_write_still : (told : Told) (a b : PagesView) (page : ℕ) → OnlyReadsIn told a b → IsToWrite a page → IsToWrite b page
to_write_still told a b page reads w = record { own = page_same a b page reads.count w.own; dirty = reads.dirty page ∙ w.dirty; value = (w.value.0, reads.kept page w.value.0 w.value.1) }

-- dirty pages are a batch
pub are_batch : (v : PagesView) (pages : List ℕ) → IsDirtyBatch v pages → IsBatch (page_writes (slot v) pages)
are_batch v pages b =
    let long = length-map pages (page_write (slot v)) in
    record { some = (let some = b.some in omega (arith, some, long)); few = (let few = b.few in omega (arith, few, long)); rises = rises_from (slot v) 16 pages b.rises }

-- and data pages
pub are_pages : (a b : PagesView) (pages : List ℕ) → b.count ≡ a.count → AllByRecursion (IsToWrite a) pages → AllByRecursion (λ p. is_page b p ≡ true) pages
are_pages a b [] same all = tt
are_pages a b (p ∷ ps) same all = (page_same a b p same all.0.own, are_pages a b ps same all.1)

-- ---- one page more

pub any_end : (q : ℕ) (xs : List ℕ) (x : ℕ) → contains q (xs ++ x ∷ []) ≡ (contains q xs || eqb q x)
any_end q [] x = or-false (eqb q x)
any_end q (y ∷ ys) x = by_test (eqb q y) (any_end q ys x)
  where
    by_test : (b : Bool) → contains q (ys ++ x ∷ []) ≡ (contains q ys || eqb q x) → (b || contains q (ys ++ x ∷ [])) ≡ ((b || contains q ys) || eqb q x)
    by_test true h = refl
    by_test false h = h

-- one page more is clean
pub clean_more : (q : ℕ) (xs : List ℕ) (i d : ℕ) (was mid now : Bool) → i < length xs → mid ≡ cond (contains q (take i xs)) false was → now ≡ cond (eqb q (get_or xs i d)) false mid → now ≡ cond (contains q (take (i + 1) xs)) false was
clean_more q xs i d was mid now lt before here =
    here ∙ ap (cond (eqb q (get_or xs i d)) false) before ∙ clean_both (contains q (take i xs)) (eqb q (get_or xs i d)) was
    ∙ ap (λ (t : Bool). cond t false was) (sym (ap (contains q) (take_more xs i d lt) ∙ any_end q (take i xs) (get_or xs i d)))

-- one image more
module _ (told : Told) (a b : PagesView) (reads : OnlyReadsIn told a b) (pages : List ℕ) (i d : ℕ) (lt : i < length pages) (w : IsToWrite a (get_or pages i d)) where
  pub write_again : page_write (slot b) (get_or pages i d) ≡ page_write (slot a) (get_or pages i d)
  write_again = ap (page_write_by (get_or pages i d)) (write_same (slot a) (slot b) (get_or pages i d) w.value.0 w.value.1 (reads.kept (get_or pages i d) w.value.0 w.value.1))

  pub writes_more : (writes : List PageWrite) (one : PageWrite) → i < length writes → take i writes ≡ page_writes (slot a) (take i pages) → one ≡ page_write (slot b) (get_or pages i d) → take (i + 1) (set writes i one) ≡ page_writes (slot a) (take (i + 1) pages)
  writes_more writes one within before is =
      take_more_set writes i one within
      ∙ ap (λ (z : List PageWrite). z ++ one ∷ []) before ∙ ap (λ (x : PageWrite). page_writes (slot a) (take i pages) ++ x ∷ []) (is ∙ write_again)
      ∙ sym (ap (page_writes (slot a)) (take_more pages i d lt) ∙ map-append (page_write (slot a)) (take i pages) (get_or pages i d ∷ []))

  pub whole_more : AllByRecursion IsWhole (page_writes (slot a) (take i pages)) → IsWhole (page_write (slot b) (get_or pages i d)) → AllByRecursion IsWhole (page_writes (slot a) (take (i + 1) pages))
  whole_more before here =
      subst (AllByRecursion IsWhole) (sym (ap (page_writes (slot a)) (take_more pages i d lt) ∙ map-append (page_write (slot a)) (take i pages) (get_or pages i d ∷ [])))
      (all_push IsWhole (page_writes (slot a) (take i pages)) (page_write (slot a) (get_or pages i d)) before (subst IsWhole write_again here))

  pub fit_more : AllByRecursion (HasItsImage (slot a)) (take i pages) → HasItsImage (slot b) (get_or pages i d) → AllByRecursion (HasItsImage (slot a)) (take (i + 1) pages)
  fit_more before here =
      subst (AllByRecursion (HasItsImage (slot a))) (sym (take_more pages i d lt))
      (all_push (HasItsImage (slot a)) (take i pages) (get_or pages i d) before (fit_same (slot a) (slot b) (get_or pages i d) (λ page v is. reads.kept page v is) w.value.0 w.value.1 here))
