-- Which sectors the pieces of a batch may have written.
use Rattle.std.proofs.Common.{◌≡◌, ℕ, zero, suc, ◌+◌, ◌<◌, ◌≤◌, ◌⊎◌, List, [], ◌∷◌, length, take, true, false, sym, ap, ◌∙◌, subst, inl, inr, arith, ◌==◌}
use Rattle.std.specs.List.{AllByRecursion}
use Rattle.std.proofs.lemmas.Bool.{or_parts}
use Rattle.std.proofs.lemmas.Bool.Decides.{eqb_tells}
use Rattle.ag_model.specs.Rows.{contains}
use Rattle.ag_outside.specs.declared.disk.SectorWrite.{SectorWrite}
use Rattle.ag_outside.specs.Calls.{Piece}
use Rattle.ag_outside.specs.Disks.{Content, Image, writes, put_all, WroteSo}
use Rattle.ag_outside.specs.Scripts.{kept}
use Rattle.ag_outside.specs.Shown.{was_or_wrote}
use Rattle.ag_outside.proofs.Puts.{wrote-left, wrote-right, wrote-split}
use Rattle.ag_logstore.proofs.Standing.{wrote_within}
use Rattle.ag_kept.proofs.Stops.{kept_wrote}
use Rattle.ag_pagestore.specs.declared.batch.PageWrite.{PageWrite}
use Rattle.ag_pagestore.specs.Batches.{IsWhole, marked, pieces}
use Rattle.ag_pagestore.specs.Places.{IsPage, IsOutside, place, image_of}
use Rattle.ag_pagestore.proofs.Pages.{image_is, length-marked}
use Rattle.ag_pagestore.proofs.Sixteen.{image-long, at_place}
use Rattle.ag_pieces.specs.Pieces.{sectors_in}
use Rattle.ag_rules.specs.Plan.{Batch}
use Rattle.ag_writes.specs.Performing.{pages_named}
use Rattle.ag_keeping.proofs.Pages.{page_writes}

-- each sector reads what it did, or what one of the pieces wrote
abbrev pub WasOrWrote : Image → List Piece → Image → Type 0
WasOrWrote old ps new = (at : ℕ) → (new at ≡ old at) ⊎ WroteSo (sectors_in ps) at (new at)

-- the pieces write sectors of pages that the batch names alone
abbrev pub IsApart : List Piece → Batch → Type 0
IsApart ps b = (at : ℕ) (c : Content) (page : ℕ) → WroteSo (sectors_in ps) at c → IsPage page → contains page (pages_named b) ≡ false → IsOutside page at

wrote_first : (n : ℕ) (ps : List Piece) (at : ℕ) (c : Content) → WroteSo (sectors_in (take n ps)) at c → WroteSo (sectors_in ps) at c
wrote_first zero ps at c h = absurd h
wrote_first (suc n) [] at c h = h
wrote_first (suc n) (p ∷ ps) at c h = elim (wrote-split (writes p.first p.sectors) (sectors_in (take n ps)) at c h) [
  | inl here ↦ wrote-left (writes p.first p.sectors) (sectors_in ps) at c here
  | inr later ↦ wrote-right (writes p.first p.sectors) (sectors_in ps) at c (wrote_first n ps at c later)
]

-- where all pieces were written
pub whole_wrote : (old new : Image) (ps : List Piece) → new ≡ put_all old (sectors_in ps) → WasOrWrote old ps new
whole_wrote old new ps is at = subst (λ (i : Image). (i at ≡ old at) ⊎ WroteSo (sectors_in ps) at (i at)) (sym is) (was_or_wrote (sectors_in ps) old at)

-- where a stop kept some sectors of the first ones
pub part_wrote : (old new : Image) (ps : List Piece) (mask n : ℕ) → new ≡ put_all old (kept mask 0 (sectors_in (take n ps))) → WasOrWrote old ps new
part_wrote old new ps mask n is at =
    let ws : List SectorWrite = kept mask 0 (sectors_in (take n ps)) in
    subst (λ (i : Image). (i at ≡ old at) ⊎ WroteSo (sectors_in ps) at (i at)) (sym is)
    (elim (was_or_wrote ws old at) [
      | inl was ↦ inl was
      | inr wrote ↦ inr (wrote_first n ps at (put_all old ws at) (kept_wrote mask 0 (sectors_in (take n ps)) at (put_all old ws at) wrote))
    ])

-- where nothing was written
pub none_wrote : (old new : Image) (ps : List Piece) → new ≡ old → WasOrWrote old ps new
none_wrote old new ps is at = inl (ap (λ (i : Image). i at) is)

inside : (page k : ℕ) → k < 16 → IsOutside page (place page + k) → ⊥
inside page k lt out = elim out [ inl below ↦ omega arith | inr above ↦ omega arith ]

-- the image of a page that isn't named stays
pub others_stay : (old new : Image) (ps : List Piece) (b : Batch) → WasOrWrote old ps new → IsApart ps b → (page : ℕ) → IsPage page → contains page (pages_named b) ≡ false → image_of new page ≡ image_of old page
others_stay old new ps b wrote apart page is other = image_is new page (image_of old page) (image-long old page) (λ k lt.
    elim (wrote (place page + k)) [
      | inl was ↦ was ∙ sym (at_place old page k lt)
      | inr some ↦ absurd (inside page k lt (apart (place page + k) (new (place page + k)) page some is other))
    ])

one_wrote : (p : Piece) (at : ℕ) (c : Content) → WroteSo (sectors_in (p ∷ [])) at c → WroteSo (writes p.first p.sectors) at c
one_wrote p at c h = elim (wrote-split (writes p.first p.sectors) [] at c h) [ inl here ↦ here | inr none ↦ absurd none ]

-- a piece below all pages
pub apart_below : (p : Piece) (b : Batch) → p.first + length p.sectors ≤ 64 → IsApart (p ∷ []) b
apart_below p b low at c page wrote is other = (let run = wrote_within p.first at p.sectors c (one_wrote p at c wrote) in inl (omega (arith, run.1, is.0, low)))

-- a piece above all pages
pub apart_above : (p : Piece) (b : Batch) → 33088 ≤ p.first → IsApart (p ∷ []) b
apart_above p b high at c page wrote is other = (let run = wrote_within p.first at p.sectors c (one_wrote p at c wrote) in inr (omega (arith, run.0, is.1, high)))

-- no piece
pub apart_none : (b : Batch) → IsApart [] b
apart_none b at c page wrote is other = absurd wrote

own_outside : (disk : Image) (w : PageWrite) (at : ℕ) (c : Content) (page : ℕ) → IsWhole w → WroteSo (writes (place w.page) (marked disk w)) at c → (page ≡ w.page → ⊥) → IsOutside page at
own_outside disk w at c page whole wrote not =
    let run = wrote_within (place w.page) at (marked disk w) c wrote in
    let long = length-marked disk w whole in
    grind arith

-- the pieces of images
pub pages_apart : (disk : Image) (ws : List PageWrite) → AllByRecursion IsWhole ws → IsApart (pieces disk ws) (page_writes ws)
pages_apart disk [] whole at c page wrote is other = absurd wrote
pages_apart disk (w ∷ ws) whole at c page wrote is other =
    let tests = or_parts (page == w.page) (contains page (pages_named (page_writes ws))) other in
    elim (wrote-split (writes (place w.page) (marked disk w)) (sectors_in (pieces disk ws)) at c wrote) [
      | inl here ↦ elim (eqb_tells page w.page) [
        | inl same ↦ absurd (let f : true ≡ false = sym same.0 ∙ tests.0 in cc)
        | inr apart ↦ own_outside disk w at c page whole.0 here apart.1
      ]
      | inr later ↦ pages_apart disk ws whole.1 at c page later is tests.1
    ]
