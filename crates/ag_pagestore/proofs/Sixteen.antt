-- Sectors that are read one by one.
use Rattle.std.proofs.Common.{◌≡◌, ◌+◌, ◌<◌, ℕ, suc, zero, List, [], ◌∷◌, length, get_or, set, Some, None, Bool, true, false, IsTrue, refl, sym, ap, ◌∙◌, arith, inl, inr, subst}
use Rattle.std.proofs.lemmas.List.{ext_get_or, get_or-map, length-map, get_or-set_same, get_or-set_other}
use Rattle.std.proofs.lemmas.Bool.{cases_eq}
use Rattle.std.proofs.lemmas.List.FromFn.{get_or-map-range_with_len, length-map-range_with_len}
use Rattle.ag_model.specs.declared.answer.Cell.{Cell}
use Rattle.ag_model.specs.declared.answer.Cell.TheVariants.{Mark, Lost}
use Rattle.ag_model.specs.Cells.{has_lost}
use Rattle.ag_outside.specs.Disks.{Content, Image, SameImages, Elapses}
use Rattle.ag_page.specs.Home.{cell_of, cells_of, readable}
use Rattle.ag_pagestore.specs.Places.{place, image_of}
use Rattle.ag_pagestore.specs.Found.{IsSector, IsFound}

pub image-long : (disk : Image) (page : ℕ) → length (image_of disk page) ≡ 16
unfolding image_of
image-long disk page = length-map-range_with_len disk (place page) 16

pub at_place : (disk : Image) (page k : ℕ) → k < 16 → get_or (image_of disk page) k None ≡ disk (place page + k)
unfolding image_of
at_place disk page k lt = get_or-map-range_with_len disk (place page) 16 k (place page + k) None lt refl

-- all 16
module _ (disk : Image) (page : ℕ) (cells : List Cell) (image : List (List ℕ)) (cells_whole : length cells ≡ 16) (image_whole : length image ≡ 16) (each : (k : ℕ) → k < 16 → IsSector (disk (place page + k)) (get_or cells k Lost) (get_or image k [])) where
  told_at : (k : ℕ) → k < 16 → get_or (cells_of (image_of disk page)) k Lost ≡ get_or cells k Lost
  told_at k lt = get_or-map cell_of (image_of disk page) k None Lost (omega (arith, image-long disk page)) ∙ ap cell_of (at_place disk page k lt) ∙ (each k lt).told

  lost_at : (cs : List Cell) (k : ℕ) → k < length cs → get_or cs k Lost ≡ Lost → has_lost cs ≡ true
  lost_at [] k lt is = absurd (omega arith)
  lost_at (c ∷ cs) zero lt is = ap (λ (z : Cell). has_lost (z ∷ cs)) is
  lost_at (Mark m ∷ cs) (suc k) lt is = lost_at cs k (omega arith) is
  lost_at (Lost ∷ cs) (suc k) lt is = refl

  bytes_at : has_lost cells ≡ false → (k : ℕ) → k < 16 → get_or (image_of disk page) k None ≡ get_or (readable image) k None
  bytes_at none k lt = elim (each k lt).either [
    | inr is ↦ at_place disk page k lt ∙ is ∙ sym (get_or-map (λ s. Some s) image k [] None (omega (arith, image_whole)))
    | inl is ↦ absurd (cc (sym (lost_at cells k (omega (arith, cells_whole)) (sym (each k lt).told ∙ ap cell_of is)) ∙ none))
  ]

  pub all_found : IsFound (image_of disk page) cells image
  all_found = record {
    same = ext_get_or Lost (cells_of (image_of disk page)) cells (length-map (image_of disk page) cell_of ∙ image-long disk page ∙ sym cells_whole) (λ k lt. told_at k (omega (arith, length-map (image_of disk page) cell_of, image-long disk page)));
    bytes = λ none. ext_get_or None (image_of disk page) (readable image) (image-long disk page ∙ sym image_whole ∙ sym (length-map image (λ s. Some s))) (λ k lt. bytes_at none k (omega (arith, image-long disk page)));
  }

-- one sector more
pub sector_more : (disk : Image) (first i : ℕ) (cells : List Cell) (cell : Cell) (image : List (List ℕ)) (bytes : List ℕ) → i < length cells → i < length image → ((k : ℕ) → k < i → IsSector (disk (first + k)) (get_or cells k Lost) (get_or image k [])) → IsSector (disk (first + i)) cell bytes
    → (k : ℕ) → k < i + 1 → IsSector (disk (first + k)) (get_or (set cells i cell) k Lost) (get_or (set image i bytes) k [])
sector_more disk first i cells cell image bytes lt within before here k below = elim (cases_eq k i) [
  | inl is ↦ subst (λ (c : Cell). IsSector (disk (first + k)) c (get_or (set image i bytes) k [])) (sym (ap (λ (j : ℕ). get_or (set cells i cell) j Lost) is ∙ get_or-set_same cells i cell Lost lt))
      (subst (λ (b : List ℕ). IsSector (disk (first + k)) cell b) (sym (ap (λ (j : ℕ). get_or (set image i bytes) j []) is ∙ get_or-set_same image i bytes [] within)) (subst (λ (j : ℕ). IsSector (disk (first + j)) cell bytes) (sym is) here))
  | inr apart ↦ subst (λ (c : Cell). IsSector (disk (first + k)) c (get_or (set image i bytes) k [])) (sym (get_or-set_other cells i k cell Lost apart))
      (subst (λ (b : List ℕ). IsSector (disk (first + k)) (get_or cells k Lost) b) (sym (get_or-set_other image i k bytes [] apart)) (before k (omega arith)))
]

-- time that goes on twice, the second time with the same images
pub elapses_on : (traced still : Bool) (before mid now : ℕ) (past then since : ℕ → Image → Type 0) (hold next : ℕ → Content → Type 0) → still ≡ traced → Elapses traced before mid past then hold → Elapses still mid now then since next → SameImages hold next → Elapses traced before now past since next
elapses_on traced still before mid now past then since hold next is a b same = record {
  later = omega (arith, a.later, b.later);
  nothing_else = λ t image le left. elim (b.nothing_else t image (omega (arith, a.later, le)) left) [
    | inl so ↦ elim (a.nothing_else t image le so) [ inl was ↦ inl was | inr now ↦ inr (λ at. (same at (image at)).1 (now at)) ]
    | inr now ↦ inr now
  ];
  kept = λ yes t image le was. b.kept (subst IsTrue (sym is) yes) t image (omega (arith, a.later, le)) (a.kept yes t image le was);
}

pub elapses_none : (traced : Bool) (now : ℕ) (past : ℕ → Image → Type 0) (hold : ℕ → Content → Type 0) → Elapses traced now now past past hold
elapses_none traced now past hold = record { later = omega arith; nothing_else = λ t image le left. inl left; kept = λ yes t image le was. was }
