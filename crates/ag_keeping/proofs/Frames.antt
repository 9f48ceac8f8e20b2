-- What stays of an image that is written elsewhere.
use Rattle.std.proofs.Common.{◌≡◌, ℕ, ◌+◌, ◌<◌, ◌≤◌, map, None, refl, sym, ap, ◌∙◌, arith}
use Rattle.std.specs.List.{range_with_len}
use Rattle.std.proofs.lemmas.List.{ext_get_or}
use Rattle.std.proofs.lemmas.List.FromFn.{get_or-map-range_with_len, length-map-range_with_len}
use Rattle.ag_outside.specs.Disks.{Image}
use Rattle.ag_page.specs.Home.{cells_of}
use Rattle.ag_pagestore.specs.Places.{place, image_of, page_cells}
use Rattle.ag_pagestore.proofs.Sixteen.{image-long, at_place}
use Rattle.ag_keeping.specs.Keeping.{cells_on}

-- a list of values at the numbers from one on, where the values are the same
pub map_same : {X : Type 0} (f g : ℕ → X) (d : X) (from n : ℕ) → ((i : ℕ) → i < n → f (from + i) ≡ g (from + i)) → map f (range_with_len from n) ≡ map g (range_with_len from n)
map_same f g d from n same =
    let long = length-map-range_with_len f from n in
    ext_get_or d (map f (range_with_len from n)) (map g (range_with_len from n)) (long ∙ sym (length-map-range_with_len g from n)) (λ i below.
    let lt : i < n = omega (arith, below, long) in
    get_or-map-range_with_len f from n i (from + i) d lt refl ∙ same i lt ∙ sym (get_or-map-range_with_len g from n i (from + i) d lt refl))

-- the cells of a page whose sectors stay
pub same_cells : (image other : Image) (page : ℕ) → ((k : ℕ) → k < 16 → other (place page + k) ≡ image (place page + k)) → page_cells other page ≡ page_cells image page
same_cells image other page same = ap cells_of (ext_get_or None (image_of other page) (image_of image page) (image-long other page ∙ sym (image-long image page)) (λ k below.
    let lt : k < 16 = omega (arith, below, image-long other page) in
    at_place other page k lt ∙ same k lt ∙ sym (at_place image page k lt)))

-- the cells of all pages
pub all_cells : (image other : Image) (pages : ℕ) → ((i : ℕ) → i < pages → page_cells other (16 + i) ≡ page_cells image (16 + i)) → cells_on pages other ≡ cells_on pages image
all_cells image other pages same = map_same (page_cells other) (page_cells image) (page_cells image 0) 16 pages same

-- the cells of all pages where the sectors of pages stay
pub pages_stay : (image other : Image) (pages : ℕ) → pages ≤ 2048 → ((at : ℕ) → 64 ≤ at → at < 33088 → other at ≡ image at) → cells_on pages other ≡ cells_on pages image
pages_stay image other pages few same = all_cells image other pages (λ i lt. same_cells image other (16 + i) (λ k below. same (place (16 + i) + k) (omega arith) (omega (arith, few, lt, below))))
