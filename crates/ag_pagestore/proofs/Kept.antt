-- What a stop keeps of a batch.
use Rattle.std.proofs.Common.{◌≡◌, ◌⊎◌, ◌+◌, ◌<◌, ◌≤◌, ℕ, zero, suc, List, [], ◌∷◌, ◌++◌, length, get_or, map, Some, None, Bool, true, false, cond, refl, sym, ap, ◌∙◌, arith, inl, inr, subst}
use Rattle.std.specs.List.{AllByRecursion}
use Rattle.std.proofs.lemmas.List.{ext_get_or, get_or-map, length-map}
use Rattle.ag_model.specs.declared.answer.Cell.{Cell}
use Rattle.ag_model.specs.declared.answer.Cell.TheVariants.{Mark, Lost}
use Rattle.ag_model.specs.Cells.{mark_after, keeps, kept_cells, written_cells}
use Rattle.ag_outside.specs.declared.disk.SectorWrite.{SectorWrite}
use Rattle.ag_outside.specs.Disks.{Content, Image, put, put_all, writes}
use Rattle.ag_outside.specs.Scripts.{is_kept, kept}
use Rattle.ag_outside.proofs.Past.{put-at, put-apart}
use Rattle.ag_outside.proofs.Puts.{put_all-append}
use Rattle.ag_page.specs.Home.{cell_of, cells_of, readable}
use Rattle.ag_pagestore.specs.declared.batch.PageWrite.{PageWrite}
use Rattle.ag_pagestore.specs.Places.{place, image_of, page_cells, IsOutside}
use Rattle.ag_pagestore.specs.Batches.{RisesFrom, IsWhole, marked, written}
use Rattle.ag_pagestore.specs.Stopped.{AreKept}
use Rattle.ag_pagestore.proofs.Mixed.{AllMark, all_marked}
use Rattle.ag_pagestore.proofs.Pages.{length-marked, below_outside}
use Rattle.ag_pagestore.proofs.Sixteen.{image-long, at_place}

-- the image after one write that is kept or not
abbrev put_if : Bool → Image → SectorWrite → Image
put_if b image w = cond b (put image w) image

kept_one : (image : Image) (b : Bool) (w : SectorWrite) (ws : List SectorWrite) → put_all image (cond b (w ∷ ws) ws) ≡ put_all (put_if b image w) ws
kept_one image true w ws = refl
kept_one image false w ws = refl

put_if-apart : (b : Bool) (image : Image) (w : SectorWrite) (at : ℕ) → (at ≡ w.at → ⊥) → put_if b image w at ≡ image at
put_if-apart true image w at apart = put-apart image w at apart
put_if-apart false image w at apart = refl

put_if-at : (b : Bool) (image : Image) (w : SectorWrite) (at : ℕ) → at ≡ w.at → put_if b image w at ≡ cond b (Some w.sector) (image at)
put_if-at true image w at is = put-at image w at is
put_if-at false image w at is = refl

kept_outside : (image : Image) (mask n p : ℕ) (ss : List (List ℕ)) (at : ℕ) → (at < p) ⊎ (p + length ss ≤ at) → put_all image (kept mask n (writes p ss)) at ≡ image at
kept_outside image mask n p [] at out = refl
kept_outside image mask n p (s ∷ ss) at out =
    let w : SectorWrite = record { at = p; sector = s } in
    let b = is_kept mask n in
    ap (λ (im : Image). im at) (kept_one image b w (kept mask (suc n) (writes (suc p) ss)))
    ∙ kept_outside (put_if b image w) mask (suc n) (suc p) ss at (elim out [ inl lt ↦ inl (omega arith) | inr le ↦ inr (omega arith) ])
    ∙ put_if-apart b image w at (λ (is : at ≡ p). elim out [ inl lt ↦ absurd (omega (arith, is)) | inr le ↦ absurd (omega (arith, is)) ])

kept_within : (image : Image) (mask n p : ℕ) (ss : List (List ℕ)) (k : ℕ) → k < length ss → put_all image (kept mask n (writes p ss)) (p + k) ≡ cond (is_kept mask (n + k)) (Some (get_or ss k [])) (image (p + k))
kept_within image mask n p [] k lt = absurd (omega arith)
kept_within image mask n p (s ∷ ss) zero lt =
    let w : SectorWrite = record { at = p; sector = s } in
    let b = is_kept mask n in
    let number : n ≡ n + 0 = omega arith in
    ap (λ (im : Image). im (p + 0)) (kept_one image b w (kept mask (suc n) (writes (suc p) ss)))
    ∙ kept_outside (put_if b image w) mask (suc n) (suc p) ss (p + 0) (inl (omega arith))
    ∙ put_if-at b image w (p + 0) (omega arith) ∙ ap (λ (m : ℕ). cond (is_kept mask m) (Some s) (image (p + 0))) number
kept_within image mask n p (s ∷ ss) (suc k) lt =
    let w : SectorWrite = record { at = p; sector = s } in
    let b = is_kept mask n in
    let next : p + suc k ≡ suc p + k = omega arith in
    let number : suc n + k ≡ n + suc k = omega arith in
    ap (λ (im : Image). im (p + suc k)) (kept_one image b w (kept mask (suc n) (writes (suc p) ss)))
    ∙ ap (put_all (put_if b image w) (kept mask (suc n) (writes (suc p) ss))) next
    ∙ kept_within (put_if b image w) mask (suc n) (suc p) ss k (omega arith)
    ∙ ap (λ (m : ℕ). cond (is_kept mask m) (Some (get_or ss k [])) (put_if b image w (suc p + k))) number
    ∙ ap (cond (is_kept mask (n + suc k)) (Some (get_or ss k []))) (put_if-apart b image w (suc p + k) (λ (is : suc p + k ≡ p). absurd (omega (arith, is))) ∙ ap image (sym next))

-- what is kept of two lists
kept_case : (b : Bool) (w : SectorWrite) (xs ys : List SectorWrite) → cond b (w ∷ (xs ++ ys)) (xs ++ ys) ≡ cond b (w ∷ xs) xs ++ ys
kept_case true w xs ys = refl
kept_case false w xs ys = refl

kept_run-append : (mask n p : ℕ) (ss : List (List ℕ)) (ys : List SectorWrite) → kept mask n (writes p ss ++ ys) ≡ kept mask n (writes p ss) ++ kept mask (n + length ss) ys
kept_run-append mask n p [] ys = ap (λ (m : ℕ). kept mask m ys) (let e : n ≡ n + 0 = omega arith in e)
kept_run-append mask n p (s ∷ ss) ys =
    let w : SectorWrite = record { at = p; sector = s } in
    let number : suc n + length ss ≡ n + suc (length ss) = omega arith in
    ap (λ (z : List SectorWrite). cond (is_kept mask n) (w ∷ z) z) (kept_run-append mask (suc n) (suc p) ss ys ∙ ap (λ (m : ℕ). kept mask (suc n) (writes (suc p) ss) ++ kept mask m ys) number)
    ∙ kept_case (is_kept mask n) w (kept mask (suc n) (writes (suc p) ss)) (kept mask (n + suc (length ss)) ys)

-- the cells at a place
length-kept : (mask n m : ℕ) (cs : List Cell) → length (kept_cells mask n m cs) ≡ length cs
length-kept mask n m [] = refl
length-kept mask n m (c ∷ cs) = ap suc (length-kept mask (n + 1) m cs)

get_or-kept : (mask n m : ℕ) (cs : List Cell) (k : ℕ) → k < length cs → get_or (kept_cells mask n m cs) k Lost ≡ cond (keeps mask (n + k)) (Mark m) (get_or cs k Lost)
get_or-kept mask n m [] k lt = absurd (omega arith)
get_or-kept mask n m (c ∷ cs) zero lt = ap (λ (j : ℕ). cond (keeps mask j) (Mark m) c) (let e : n ≡ n + 0 = omega arith in e)
get_or-kept mask n m (c ∷ cs) (suc k) lt = get_or-kept mask (n + 1) m cs k (omega arith) ∙ ap (λ (j : ℕ). cond (keeps mask j) (Mark m) (get_or cs k Lost)) (let e : n + 1 + k ≡ n + suc k = omega arith in e)

mark_at : (m : ℕ) (ns : List Content) (k : ℕ) → AllMark m ns → k < length ns → cell_of (get_or ns k None) ≡ Mark m
mark_at m [] k all lt = absurd (omega arith)
mark_at m (n ∷ ns) zero all lt = all.0
mark_at m (n ∷ ns) (suc k) all lt = mark_at m ns k all.1 (omega arith)

cell-cond : (b : Bool) (x y : Content) → cell_of (cond b x y) ≡ cond b (cell_of x) (cell_of y)
cell-cond true x y = refl
cell-cond false x y = refl

-- a batch of which a stop keeps some sectors
outside_kept : (old now : Image) (mask n : ℕ) (ws : List PageWrite) (at : ℕ) → AllByRecursion IsWhole ws → AllByRecursion (λ w. IsOutside w.page at) ws → put_all now (kept mask n (written old ws)) at ≡ now at
outside_kept old now mask n [] at whole out = refl
outside_kept old now mask n (w ∷ ws) at whole out =
    ap (λ (vs : List SectorWrite). put_all now vs at) (kept_run-append mask n (place w.page) (marked old w) (written old ws))
    ∙ ap (λ (im : Image). im at) (put_all-append now (kept mask n (writes (place w.page) (marked old w))) (kept mask (n + length (marked old w)) (written old ws)))
    ∙ outside_kept old (put_all now (kept mask n (writes (place w.page) (marked old w)))) mask (n + length (marked old w)) ws at whole.1 out.1
    ∙ kept_outside now mask n (place w.page) (marked old w) at (elim out.0 [ inl lt ↦ inl lt | inr le ↦ inr (omega (arith, length-marked old w whole.0)) ])

pub others_kept : (disk : Image) (batch : List PageWrite) (mask from at : ℕ) → AllByRecursion IsWhole batch → AllByRecursion (λ w. IsOutside w.page at) batch → put_all disk (kept mask from (written disk batch)) at ≡ disk at
others_kept disk batch mask from at whole out = outside_kept disk disk mask from batch at whole out

cell_at : (disk : Image) (page k : ℕ) → k < 16 → get_or (page_cells disk page) k Lost ≡ cell_of (disk (place page + k))
cell_at disk page k lt = get_or-map cell_of (image_of disk page) k None Lost (omega (arith, image-long disk page)) ∙ ap cell_of (at_place disk page k lt)

length-cells : (disk : Image) (page : ℕ) → length (page_cells disk page) ≡ 16
length-cells disk page = length-map (image_of disk page) cell_of ∙ image-long disk page

-- the cells of a page of which some sectors are new
page_kept : (old new : Image) (mask n : ℕ) (w : PageWrite) → IsWhole w → ((k : ℕ) → k < 16 → new (place w.page + k) ≡ cond (is_kept mask (n + k)) (Some (get_or (marked old w) k [])) (old (place w.page + k)))
    → page_cells new w.page ≡ kept_cells mask n (mark_after (page_cells old w.page)) (page_cells old w.page)
page_kept old new mask n w whole each =
    let cs = page_cells old w.page in
    let m = mark_after cs in
    let own : (k : ℕ) → k < 16 → cell_of (Some (get_or (marked old w) k [])) ≡ Mark m = λ k lt.
    ap cell_of (sym (get_or-map (λ s. Some s) (marked old w) k [] None (omega (arith, length-marked old w whole)))) ∙ mark_at m (readable (marked old w)) k (all_marked m w.image whole.1) (omega (arith, length-marked old w whole, length-map (marked old w) (λ s. Some s))) in
    ext_get_or Lost (page_cells new w.page) (kept_cells mask n m cs) (length-cells new w.page ∙ sym (length-cells old w.page) ∙ sym (length-kept mask n m cs)) (λ k below.
    let lt : k < 16 = omega (arith, below, length-cells new w.page) in
    cell_at new w.page k lt ∙ ap cell_of (each k lt) ∙ cell-cond (is_kept mask (n + k)) (Some (get_or (marked old w) k [])) (old (place w.page + k))
    ∙ ap (λ (c : Cell). cond (is_kept mask (n + k)) c (cell_of (old (place w.page + k)))) (own k lt)
    ∙ ap (cond (is_kept mask (n + k)) (Mark m)) (sym (cell_at old w.page k lt))
    ∙ sym (get_or-kept mask n m cs k (omega (arith, lt, length-cells old w.page))))

pub pages_kept : (old now : Image) (mask n low : ℕ) (ws : List PageWrite) → RisesFrom low ws → AllByRecursion IsWhole ws → ((at : ℕ) → place low ≤ at → now at ≡ old at) → AreKept old (put_all now (kept mask n (written old ws))) mask n ws
pages_kept old now mask n low [] rises whole same = tt
pages_kept old now mask n low (w ∷ ws) rises whole same =
    let above = rises.0 in
    let long = length-marked old w whole.0 in
    let mid = put_all now (kept mask n (writes (place w.page) (marked old w))) in
    let both : put_all now (kept mask n (written old (w ∷ ws))) ≡ put_all mid (kept mask (n + 16) (written old ws)) =
    ap (put_all now) (kept_run-append mask n (place w.page) (marked old w) (written old ws))
    ∙ put_all-append now (kept mask n (writes (place w.page) (marked old w))) (kept mask (n + length (marked old w)) (written old ws))
    ∙ ap (λ (j : ℕ). put_all mid (kept mask (n + j) (written old ws))) long in (
      page_kept old (put_all now (kept mask n (written old (w ∷ ws)))) mask n w whole.0 (λ k lt.
          ap (λ (im : Image). im (place w.page + k)) both
          ∙ outside_kept old mid mask (n + 16) ws (place w.page + k) whole.1 (below_outside (suc w.page) (place w.page + k) ws rises.2 (omega arith))
          ∙ kept_within now mask n (place w.page) (marked old w) k (omega (arith, long))
          ∙ ap (cond (is_kept mask (n + k)) (Some (get_or (marked old w) k []))) (same (place w.page + k) (omega (arith, above)))),
      subst (λ (im : Image). AreKept old im mask (n + 16) ws) (sym both) (pages_kept old mid mask (n + 16) (suc w.page) ws rises.2 whole.1 (λ at le.
          kept_outside now mask n (place w.page) (marked old w) at (inr (omega (arith, long, le))) ∙ same at (omega (arith, above, le)))),
    )

-- the cells of a page that is written whole
cells_written : (m : ℕ) (ns : List Content) (cs : List Cell) → AllMark m ns → length ns ≡ length cs → cells_of ns ≡ map (λ _. Mark m) cs
cells_written m [] [] all long = refl
cells_written m (n ∷ ns) (c ∷ cs) all long = ap (λ (x : Cell). x ∷ cells_of ns) all.0 ∙ ap (λ (z : List Cell). Mark m ∷ z) (cells_written m ns cs all.1 (omega (arith, long)))
cells_written m [] (c ∷ cs) all long = absurd (omega (arith, long))
cells_written m (n ∷ ns) [] all long = absurd (omega (arith, long))

pub all_cells : (old new : Image) (ws : List PageWrite) → AllByRecursion IsWhole ws → AllByRecursion (λ w. image_of new w.page ≡ readable (marked old w)) ws → AllByRecursion (λ w. page_cells new w.page ≡ written_cells (page_cells old w.page)) ws
all_cells old new [] whole all = tt
all_cells old new (w ∷ ws) whole all = (
  ap cells_of all.0 ∙ cells_written (mark_after (page_cells old w.page)) (readable (marked old w)) (page_cells old w.page) (all_marked (mark_after (page_cells old w.page)) w.image whole.0.1) (length-map (marked old w) _ ∙ length-marked old w whole.0 ∙ sym (length-cells old w.page)),
  all_cells old new ws whole.1 all.1,
)
