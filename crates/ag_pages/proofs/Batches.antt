-- Batches that a disk takes one after the other.
use Rattle.std.proofs.Common.{◌≡◌, ◌⊎◌, ℕ, suc, ◌+◌, ◌<◌, Bool, true, false, eqb, List, [], ◌∷◌, ◌++◌, append_assoc, refl, sym, ap, ◌∙◌, inl, inr, arith}
use Rattle.std.specs.List.{AllByRecursion}
use Rattle.std.proofs.lemmas.Bool.{cases_order, eqb-false, or_parts, false_from_ne_true}
use Rattle.ag_model.specs.Rows.{contains}
use Rattle.ag_outside.specs.Calls.{Call}
use Rattle.ag_outside.specs.Disks.{Content, Image, Only}
use Rattle.ag_page.specs.Home.{written_over}
use Rattle.ag_pagestore.specs.declared.batch.PageWrite.{PageWrite}
use Rattle.ag_pagestore.specs.Places.{place, image_of, IsOutside}
use Rattle.ag_pagestore.specs.Batches.{RisesFrom, IsWritten}
use Rattle.ag_pagestore.specs.Calling.{reads_both, reads_none, same_images, same_itself}
use Rattle.ag_pagestore.proofs.Pages.{image_is}
use Rattle.ag_pagestore.proofs.Sixteen.{image-long, at_place}
use Rattle.ag_stripe.specs.declared.slot.Slot.{Slot}
use Rattle.ag_pages.specs.Reading.{WasOnlyRead}
use Rattle.ag_pages.specs.Flush.{Rise, page_write, page_writes, TakesBatches, BreaksOff}
use Rattle.ag_pages.proofs.Sets.{all_made, made_at}

-- ---- calls

module _ {D : Type 0} (size : D → ℕ) (keeps : D → Bool) (reads : D → Image) (may_hold : D → ℕ → Content → Type 0) (did : D → Call → D → Type 0) where
  pub read_itself : (a : D) → WasOnlyRead size keeps reads may_hold did a a
  read_itself a = record { content = refl; images = same_itself (may_hold a); keeping = refl; sectors = refl; calls = reads_none did a }

  pub read_both : (a b c : D) → WasOnlyRead size keeps reads may_hold did a b → WasOnlyRead size keeps reads may_hold did b c → WasOnlyRead size keeps reads may_hold did a c
  read_both a b c first then = record {
    content = then.content ∙ first.content;
    images = same_images (may_hold a) (may_hold b) (may_hold c) first.images then.images;
    keeping = then.keeping ∙ first.keeping;
    sectors = then.sectors ∙ first.sectors;
    calls = reads_both did a b first.calls c then.calls;
  }

  -- reads, and then batches
  pub reads_take : (ys : List (List PageWrite)) (a b c : D) → WasOnlyRead size keeps reads may_hold did a b → TakesBatches size keeps reads may_hold did b ys c → TakesBatches size keeps reads may_hold did a ys c
  reads_take [] a b c first then = read_both a b c first then
  reads_take (y ∷ ys) a b c first (before, after, read, took, rest) = (before, after, read_both a b before first read, took, rest)

  -- batches, and then batches
  pub takes_both : (xs ys : List (List PageWrite)) (a b c : D) → TakesBatches size keeps reads may_hold did a xs b → TakesBatches size keeps reads may_hold did b ys c → TakesBatches size keeps reads may_hold did a (xs ++ ys) c
  takes_both [] ys a b c first then = reads_take ys a b c first then
  takes_both (x ∷ xs) ys a b c (before, after, read, took, rest) then = (before, after, read, took, takes_both xs ys after b c rest then)

  -- some batches, and then one of which it failed on the way
  pub breaks_later : (xs ys : List (List PageWrite)) (a b c : D) → TakesBatches size keeps reads may_hold did a xs b → BreaksOff size keeps reads may_hold did b ys c → BreaksOff size keeps reads may_hold did a (xs ++ ys) c
  breaks_later xs ys a b c first broke = record {
    before = xs ++ broke.before;
    at = broke.at;
    after = broke.after;
    all = ap (λ (z : List (List PageWrite)). xs ++ z) broke.all ∙ sym (append_assoc xs broke.before (broke.at ∷ broke.after));
    mid = broke.mid;
    took = takes_both xs broke.before a b broke.mid first broke.took;
    failed = broke.failed;
  }

  -- with more batches to come
  pub breaks_before : (xs ys : List (List PageWrite)) (a c : D) → BreaksOff size keeps reads may_hold did a xs c → BreaksOff size keeps reads may_hold did a (xs ++ ys) c
  breaks_before xs ys a c broke = record {
    before = broke.before;
    at = broke.at;
    after = broke.after ++ ys;
    all = ap (λ (z : List (List PageWrite)). z ++ ys) broke.all ∙ append_assoc broke.before (broke.at ∷ broke.after) ys;
    mid = broke.mid;
    took = broke.took;
    failed = broke.failed;
  }

  -- what stays over all batches
  pub takes_same : (xs : List (List PageWrite)) (a b : D) → TakesBatches size keeps reads may_hold did a xs b → (keeps b ≡ keeps a) × (size b ≡ size a)
  takes_same [] a b read = (read.keeping, read.sectors)
  takes_same (x ∷ xs) a b (before, after, read, took, rest) = (let r = takes_same xs after b rest in (r.0 ∙ took.keeping ∙ read.keeping, r.1 ∙ took.sectors ∙ read.sectors))

  only_over : (a b : D) → WasOnlyRead size keeps reads may_hold did a b → Only (reads a) (may_hold a) → Only (reads b) (may_hold b)
  only_over a b read only at content here = only at content ((read.images at content).0 here) ∙ ap (λ (im : Image). im at) (sym read.content)

  -- after a batch a crash leaves what is read; where there was none, it leaves what it did before
  pub takes_durable : (xs : List (List PageWrite)) (a b : D) → TakesBatches size keeps reads may_hold did a xs b → (xs ≡ [] → Only (reads a) (may_hold a)) → Only (reads b) (may_hold b)
  takes_durable [] a b read before = only_over a b read (before refl)
  takes_durable (x ∷ xs) a b (before, after, read, took, rest) only = takes_durable xs after b rest (λ _. took.durable)

-- ---- sectors

-- a sector of one page is none of another
apart_outside : (p q k : ℕ) → k < 16 → (p ≡ q → ⊥) → IsOutside q (place p + k)
apart_outside p q k lt apart = by_order (cases_order p q)
  where
    by_order : (p ≡ q) ⊎ ((p < q) ⊎ (q < p)) → IsOutside q (place p + k)
    by_order (inl is) = absurd (apart is)
    by_order (inr (inl below)) = inl (omega (arith, below))
    by_order (inr (inr above)) = inr (omega (arith, above))

-- a page that isn't among some others stands outside of them
pub all_outside : (slot : ℕ → Slot) (q k : ℕ) (ps : List ℕ) → k < 16 → contains q ps ≡ false → AllByRecursion (λ w. IsOutside w.page (place q + k)) (page_writes slot ps)
all_outside slot q k [] lt none = tt
all_outside slot q k (p ∷ ps) lt none = (let e = or_parts (eqb q p) (contains q ps) none in (apart_outside q p k lt (eqb-false q p e.0), all_outside slot q k ps lt e.1))

pub image_stays : (old new : Image) (page : ℕ) → ((k : ℕ) → k < 16 → new (place page + k) ≡ old (place page + k)) → image_of new page ≡ image_of old page
image_stays old new page same = image_is new page (image_of old page) (image-long old page) (λ k lt. same k lt ∙ sym (at_place old page k lt))

-- the image of a page that isn't among those written stays
pub other_stays : (slot : ℕ → Slot) (old new : Image) (page : ℕ) (ps : List ℕ) → IsWritten old (page_writes slot ps) new → contains page ps ≡ false → image_of new page ≡ image_of old page
other_stays slot old new page ps written none = image_stays old new page (λ k lt. written.others (place page + k) (all_outside slot page k ps lt none))

pub rises_from : (slot : ℕ → Slot) (low : ℕ) (ps : List ℕ) → Rise low ps → RisesFrom low (page_writes slot ps)
rises_from slot low [] h = tt
rises_from slot low (p ∷ ps) h = (h.0, h.1, rises_from slot (suc p) ps h.2)

all_left : (P : PageWrite → Type 0) (slot : ℕ → Slot) (xs ys : List ℕ) → AllByRecursion P (page_writes slot (xs ++ ys)) → AllByRecursion P (page_writes slot xs) × AllByRecursion P (page_writes slot ys)
all_left P slot [] ys all = (tt, all)
all_left P slot (x ∷ xs) ys all = (let r = all_left P slot xs ys all.1 in ((all.0, r.0), r.1))

pub all_joined : (P : PageWrite → Type 0) (slot : ℕ → Slot) (xs ys : List ℕ) → AllByRecursion P (page_writes slot xs) → AllByRecursion P (page_writes slot ys) → AllByRecursion P (page_writes slot (xs ++ ys))
all_joined P slot [] ys first then = then
all_joined P slot (x ∷ xs) ys first then = (first.0, all_joined P slot xs ys first.1 then)

-- nothing written
pub written_none : (slot : ℕ → Slot) (old new : Image) → new ≡ old → IsWritten old (page_writes slot []) new
written_none slot old new same = record { pages = tt; others = λ at out. ap (λ (im : Image). im at) same }

-- pages, and then others
pub written_both : (slot : ℕ → Slot) (a b c : Image) (xs ys : List ℕ) → ((q : ℕ) → contains q xs ≡ true → contains q ys ≡ true → ⊥) → IsWritten a (page_writes slot xs) b → IsWritten b (page_writes slot ys) c → IsWritten a (page_writes slot (xs ++ ys)) c
written_both slot a b c xs ys apart first then = record {
  pages = all_joined (λ w. image_of c w.page ≡ written_over (image_of a w.page) w.image) slot xs ys
      (all_made (λ w. image_of c w.page ≡ written_over (image_of a w.page) w.image) (page_write slot) xs (λ p here.
      other_stays slot b c p ys then (false_from_ne_true (contains p ys) (λ other. apart p here other))
      ∙ made_at (λ w. image_of b w.page ≡ written_over (image_of a w.page) w.image) (page_write slot) xs p first.pages here))
      (all_made (λ w. image_of c w.page ≡ written_over (image_of a w.page) w.image) (page_write slot) ys (λ p here.
      made_at (λ w. image_of c w.page ≡ written_over (image_of b w.page) w.image) (page_write slot) ys p then.pages here
      ∙ ap (λ (im : List Content). written_over im (page_write slot p).image) (other_stays slot a b p xs first (false_from_ne_true (contains p xs) (λ other. apart p other here)))));
  others = λ at out. (let r = all_left (λ w. IsOutside w.page at) slot xs ys out in then.others at r.1 ∙ first.others at r.0);
}
