-- The pages of a batch, one by one.
use Rattle.std.proofs.Common.{◌≡◌, ◌⊎◌, ◌+◌, ◌<◌, ◌≤◌, ℕ, suc, List, [], ◌∷◌, ◌++◌, length, get_or, Some, None, refl, sym, ap, ◌∙◌, arith, inl, inr, subst}
use Rattle.std.specs.List.{AllByRecursion}
use Rattle.std.proofs.lemmas.List.{ext_get_or, get_or-map, length-map}
use Rattle.ag_outside.specs.Disks.{Content, Image, writes, put_all, WroteSo}
use Rattle.ag_outside.proofs.Puts.{put_all-append, wrote-split}
use Rattle.ag_page.specs.Home.{readable, with_mark, written_over}
use Rattle.ag_pagestore.specs.declared.batch.PageWrite.{PageWrite}
use Rattle.ag_pagestore.specs.Places.{place, image_of, IsOutside}
use Rattle.ag_pagestore.specs.Batches.{RisesFrom, IsWhole, marked, written, IsWritten}
use Rattle.ag_pagestore.specs.Moments.{IsOldNewOrUnsound, IsOldOrNew}
use Rattle.ag_pagestore.proofs.Runs.{put_outside, put_within, in_run}
use Rattle.ag_pagestore.proofs.Mixed.{mixed_from, page_left}
use Rattle.ag_pagestore.proofs.Sixteen.{image-long, at_place}

-- an image is what its sectors are
pub image_is : (disk : Image) (page : ℕ) (cs : List Content) → length cs ≡ 16 → ((k : ℕ) → k < 16 → disk (place page + k) ≡ get_or cs k None) → image_of disk page ≡ cs
image_is disk page cs long each = ext_get_or None (image_of disk page) cs (image-long disk page ∙ sym long) (λ k lt. let within : k < 16 = omega (arith, image-long disk page) in at_place disk page k within ∙ each k within)

pub length-marked : (disk : Image) (w : PageWrite) → IsWhole w → length (marked disk w) ≡ 16
length-marked disk w whole = length-map w.image _ ∙ whole.0

length-over : (os : List Content) (w : PageWrite) → IsWhole w → length (written_over os w.image) ≡ 16
length-over os w whole = length-map (with_mark _ w.image) (λ s. Some s) ∙ length-map w.image _ ∙ whole.0

-- a sector outside each page of a batch stays
pub outside_stays : (old now : Image) (ws : List PageWrite) (at : ℕ) → AllByRecursion IsWhole ws → AllByRecursion (λ w. IsOutside w.page at) ws → put_all now (written old ws) at ≡ now at
outside_stays old now [] at whole out = refl
outside_stays old now (w ∷ ws) at whole out =
    ap (λ (im : Image). im at) (put_all-append now (writes (place w.page) (marked old w)) (written old ws))
    ∙ outside_stays old (put_all now (writes (place w.page) (marked old w))) ws at whole.1 out.1
    ∙ put_outside now (place w.page) (marked old w) at (elim out.0 [ inl lt ↦ inl lt | inr le ↦ inr (omega (arith, length-marked old w whole.0)) ])

-- below the pages of a batch
pub below_outside : (low at : ℕ) (ws : List PageWrite) → RisesFrom low ws → at < place low → AllByRecursion (λ w. IsOutside w.page at) ws
below_outside low at [] rises lt = tt
below_outside low at (w ∷ ws) rises lt = (inl (let above = rises.0 in omega (arith, above)), below_outside (suc w.page) at ws rises.2 (let above = rises.0 in omega (arith, above)))

-- each page is written
pub pages_written : (old now : Image) (low : ℕ) (ws : List PageWrite) → RisesFrom low ws → AllByRecursion IsWhole ws → AllByRecursion (λ w. image_of (put_all now (written old ws)) w.page ≡ readable (marked old w)) ws
pages_written old now low [] rises whole = tt
pages_written old now low (w ∷ ws) rises whole =
    let mid = put_all now (writes (place w.page) (marked old w)) in
    let both = put_all-append now (writes (place w.page) (marked old w)) (written old ws) in
    let stays : (k : ℕ) → k < 16 → put_all now (written old (w ∷ ws)) (place w.page + k) ≡ get_or (readable (marked old w)) k None = λ k lt.
    ap (λ (im : Image). im (place w.page + k)) both
    ∙ outside_stays old mid ws (place w.page + k) whole.1 (below_outside (suc w.page) (place w.page + k) ws rises.2 (omega arith))
    ∙ put_within now (place w.page) (marked old w) k (omega (arith, length-marked old w whole.0))
    ∙ sym (get_or-map (λ s. Some s) (marked old w) k [] None (omega (arith, length-marked old w whole.0))) in (
      image_is (put_all now (written old (w ∷ ws))) w.page (readable (marked old w)) (length-map (marked old w) _ ∙ length-marked old w whole.0) stays,
      subst (λ (im : Image). AllByRecursion (λ x. image_of im x.page ≡ readable (marked old x)) ws) (sym both) (pages_written old mid (suc w.page) ws rises.2 whole.1),
    )

pub is_written : (old new : Image) (ws : List PageWrite) → RisesFrom 16 ws → AllByRecursion IsWhole ws → new ≡ put_all old (written old ws) → IsWritten old ws new
is_written old new ws rises whole is = record {
  pages = subst (λ (im : Image). AllByRecursion (λ x. image_of im x.page ≡ readable (marked old x)) ws) (sym is) (pages_written old old 16 ws rises whole);
  others = λ at out. ap (λ (im : Image). im at) is ∙ outside_stays old old ws at whole out;
}

-- what was written for pages from a number on stands there
wrote_above : (old : Image) (low : ℕ) (xs ys : List PageWrite) (at : ℕ) (content : Content) → RisesFrom low (xs ++ ys) → AllByRecursion IsWhole xs → WroteSo (written old xs) at content → place low ≤ at
wrote_above old low [] ys at content rises whole none = absurd none
wrote_above old low (x ∷ xs) ys at content rises whole wrote = elim (wrote-split (writes (place x.page) (marked old x)) (written old xs) at content wrote) [
  | inl here ↦ (let run = in_run (place x.page) (marked old x) at content here in let above = rises.0 in omega (arith, run.from, above))
  | inr later ↦ (let from = wrote_above old (suc x.page) xs ys at content rises.2 whole.1 later in let above = rises.0 in omega (arith, from, above))
]

-- nothing is written outside the pages
not_outside : (old : Image) (xs : List PageWrite) (at : ℕ) (content : Content) → AllByRecursion IsWhole xs → AllByRecursion (λ w. IsOutside w.page at) xs → WroteSo (written old xs) at content → ⊥
not_outside old [] at content whole out none = none
not_outside old (x ∷ xs) at content whole out wrote = elim (wrote-split (writes (place x.page) (marked old x)) (written old xs) at content wrote) [
  | inl here ↦ (let run = in_run (place x.page) (marked old x) at content here in elim out.0 [ inl lt ↦ absurd (omega (arith, run.from, lt)) | inr le ↦ absurd (omega (arith, run.below, le, length-marked old x whole.0)) ])
  | inr later ↦ not_outside old xs at content whole.1 out.1 later
]

-- the pages that weren't begun have their old images
pages_same : (old image : Image) (low : ℕ) (ys : List PageWrite) → RisesFrom low ys → ((at : ℕ) → place low ≤ at → image at ≡ old at) → AllByRecursion (IsOldNewOrUnsound old image) ys
pages_same old image low [] rises same = tt
pages_same old image low (y ∷ ys) rises same = (
  inl (image_is image y.page (image_of old y.page) (image-long old y.page) (λ k lt. same (place y.page + k) (let above = rises.0 in omega (arith, above)) ∙ sym (at_place old y.page k lt))),
  pages_same old image (suc y.page) ys rises.2 (λ at le. same at (let above = rises.0 in omega (arith, above, le))),
)

-- what a crash leaves of each page, where the first pages were begun
pages_left : (old image : Image) (low : ℕ) (xs ys : List PageWrite) → RisesFrom low (xs ++ ys) → AllByRecursion IsWhole xs → ((at : ℕ) → place low ≤ at → (image at ≡ old at) ⊎ WroteSo (written old xs) at (image at)) → AllByRecursion (IsOldNewOrUnsound old image) (xs ++ ys)
pages_left old image low [] ys rises whole each = pages_same old image low ys rises (λ at le. elim (each at le) [ inl was ↦ was | inr none ↦ absurd none ])
pages_left old image low (x ∷ xs) ys rises whole each =
    let above = rises.0 in
    let own : (k : ℕ) → k < 16 → (get_or (image_of image x.page) k None ≡ get_or (image_of old x.page) k None) ⊎ (get_or (image_of image x.page) k None ≡ get_or (readable (marked old x)) k None) = λ k lt.
    elim (each (place x.page + k) (omega (arith, above))) [
      | inl was ↦ inl (at_place image x.page k lt ∙ was ∙ sym (at_place old x.page k lt))
      | inr wrote ↦ elim (wrote-split (writes (place x.page) (marked old x)) (written old xs) (place x.page + k) (image (place x.page + k)) wrote) [
        | inl here ↦ inr (at_place image x.page k lt ∙ (in_run (place x.page) (marked old x) (place x.page + k) (image (place x.page + k)) here).is k refl ∙ sym (get_or-map (λ s. Some s) (marked old x) k [] None (omega (arith, length-marked old x whole.0))))
        | inr later ↦ absurd (let from = wrote_above old (suc x.page) xs ys (place x.page + k) (image (place x.page + k)) rises.2 whole.1 later in omega (arith, from, lt))
      ]
    ] in (
      page_left (image_of old x.page) (image_of image x.page) x.image (image-long old x.page) whole.0.1
          (mixed_from (image_of old x.page) (written_over (image_of old x.page) x.image) (image_of image x.page) (image-long old x.page ∙ sym (image-long image x.page)) (length-over (image_of old x.page) x whole.0 ∙ sym (image-long image x.page)) (λ k lt. own k (omega (arith, lt, image-long image x.page)))),
      pages_left old image (suc x.page) xs ys rises.2 whole.1 (λ at le. elim (each at (omega (arith, above, le))) [
        | inl was ↦ inl was
        | inr wrote ↦ elim (wrote-split (writes (place x.page) (marked old x)) (written old xs) at (image at) wrote) [
          | inl here ↦ (let run = in_run (place x.page) (marked old x) at (image at) here in absurd (omega (arith, run.below, le, length-marked old x whole.0)))
          | inr later ↦ inr later
        ]
      ]),
    )

first_outside : (at : ℕ) (xs ys : List PageWrite) → AllByRecursion (λ w. IsOutside w.page at) (xs ++ ys) → AllByRecursion (λ w. IsOutside w.page at) xs
first_outside at [] ys out = tt
first_outside at (x ∷ xs) ys out = (out.0, first_outside at xs ys out.1)

-- what a crash leaves of the disk
pub disk_left : (old image : Image) (xs ys : List PageWrite) → RisesFrom 16 (xs ++ ys) → AllByRecursion IsWhole xs → ((at : ℕ) → (image at ≡ old at) ⊎ WroteSo (written old xs) at (image at)) → IsOldOrNew old (xs ++ ys) image
disk_left old image xs ys rises whole each = record {
  pages = pages_left old image 16 xs ys rises whole (λ at le. each at);
  others = λ at out. elim (each at) [ inl was ↦ was | inr wrote ↦ absurd (not_outside old xs at (image at) whole (first_outside at xs ys out) wrote) ];
}
