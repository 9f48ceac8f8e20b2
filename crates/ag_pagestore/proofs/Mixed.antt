-- An image of which each sector is an old one or a new one.
use Rattle.std.proofs.Common.{◌≡◌, ◌⊎◌, ◌<◌, ℕ, suc, List, [], ◌∷◌, ◌++◌, length, get_or, take, slice_index, None, Bool, true, false, ◌&&◌, refl, sym, ap, ◌∙◌, arith, inl, inr}
use Rattle.std.specs.List.{list_all, AllByRecursion}
use Rattle.std.proofs.lemmas.Bool.{or_parts, and_right}
use Rattle.std.proofs.lemmas.Bool.Decides.{eqb_tells}
use Rattle.std.proofs.lemmas.List.{get_or_at, length-take, length-map}
use Rattle.ag_model.specs.declared.answer.Cell.{Cell}
use Rattle.ag_model.specs.declared.answer.Cell.TheVariants.{Mark, Lost}
use Rattle.ag_model.specs.Cells.{same_mark, is_sound, mark_after}
use Rattle.ag_outside.specs.Disks.{Content}
use Rattle.ag_page.specs.Home.{cell_of, cells_of, readable, with_mark, written_over}
use Rattle.ag_pagestore.proofs.Fresh.{has, after_is}

-- each is one of the two
abbrev pub Mixed : List Content → List Content → List Content → Type 0
Mixed [] [] [] = Unit {0}
Mixed (o ∷ os) (n ∷ ns) (x ∷ xs) = ((x ≡ o) ⊎ (x ≡ n)) × Mixed os ns xs
Mixed os ns xs = ⊥

pub mixed_from : (os ns xs : List Content) → length os ≡ length xs → length ns ≡ length xs → ((k : ℕ) → k < length xs → (get_or xs k None ≡ get_or os k None) ⊎ (get_or xs k None ≡ get_or ns k None)) → Mixed os ns xs
mixed_from [] [] [] a b each = tt
mixed_from (o ∷ os) (n ∷ ns) (x ∷ xs) a b each = (each 0 (omega arith), mixed_from os ns xs (omega (arith, a)) (omega (arith, b)) (λ k lt. each (suc k) (omega arith)))
mixed_from [] (n ∷ ns) xs a b each = absurd (omega (arith, a, b))
mixed_from (o ∷ os) [] xs a b each = absurd (omega (arith, a, b))
mixed_from [] [] (x ∷ xs) a b each = absurd (omega (arith, a, b))
mixed_from (o ∷ os) (n ∷ ns) [] a b each = absurd (omega (arith, a, b))

-- each of these has this mark
abbrev pub AllMark : ℕ → List Content → Type 0
AllMark m ns = AllByRecursion (λ n. cell_of n ≡ Mark m) ns

-- from a sector with another mark on, all are old, or the marks differ
from_old : (m : ℕ) (first : Cell) (os ns xs : List Content) → same_mark first (Mark m) ≡ false → AllMark m ns → Mixed os ns xs → (xs ≡ os) ⊎ (list_all (same_mark first) (cells_of xs) ≡ false)
from_old m first [] [] [] apart new mixed = inl refl
from_old m first (o ∷ os) (n ∷ ns) (x ∷ xs) apart new mixed = elim mixed.0 [
  | inr is ↦ inr (ap (λ (c : Cell). same_mark first c && list_all (same_mark first) (cells_of xs)) (ap cell_of is ∙ new.0) ∙ ap (λ (b : Bool). b && list_all (same_mark first) (cells_of xs)) apart)
  | inl is ↦ elim (from_old m first os ns xs apart new.1 mixed.1) [
    | inl all ↦ inl (ap (λ (c : Content). c ∷ xs) is ∙ ap (λ (z : List Content). o ∷ z) all)
    | inr differ ↦ inr (and_right (same_mark first (cell_of x)) (list_all (same_mark first) (cells_of xs)) differ)
  ]
]
from_old m first [] (n ∷ ns) xs apart new mixed = absurd mixed
from_old m first (o ∷ os) [] xs apart new mixed = absurd mixed
from_old m first [] [] (x ∷ xs) apart new mixed = absurd mixed
from_old m first (o ∷ os) (n ∷ ns) [] apart new mixed = absurd mixed

-- from a sector with the new mark on, all are new, or the marks differ
from_new : (m : ℕ) (os ns xs : List Content) → has m (cells_of os) ≡ false → Mixed os ns xs → (xs ≡ ns) ⊎ (list_all (same_mark (Mark m)) (cells_of xs) ≡ false)
from_new m [] [] [] fresh mixed = inl refl
from_new m (o ∷ os) (n ∷ ns) (x ∷ xs) fresh mixed =
    let parts = or_parts (same_mark (Mark m) (cell_of o)) (has m (cells_of os)) fresh in
    elim mixed.0 [
      | inl is ↦ inr (ap (λ (c : Content). same_mark (Mark m) (cell_of c) && list_all (same_mark (Mark m)) (cells_of xs)) is ∙ ap (λ (b : Bool). b && list_all (same_mark (Mark m)) (cells_of xs)) parts.0)
      | inr is ↦ elim (from_new m os ns xs parts.1 mixed.1) [
        | inl all ↦ inl (ap (λ (c : Content). c ∷ xs) is ∙ ap (λ (z : List Content). n ∷ z) all)
        | inr differ ↦ inr (and_right (same_mark (Mark m) (cell_of x)) (list_all (same_mark (Mark m)) (cells_of xs)) differ)
      ]
    ]
from_new m [] (n ∷ ns) xs fresh mixed = absurd mixed
from_new m (o ∷ os) [] xs fresh mixed = absurd mixed
from_new m [] [] (x ∷ xs) fresh mixed = absurd mixed
from_new m (o ∷ os) (n ∷ ns) [] fresh mixed = absurd mixed

turned : (m : ℕ) (c : Cell) → same_mark (Mark m) c ≡ false → same_mark c (Mark m) ≡ false
turned m (Mark k) is = elim (eqb_tells k m) [
  | inr other ↦ other.0
  | inl here ↦ elim (eqb_tells m k) [ inl also ↦ absurd (cc (sym is ∙ also.0)) | inr other ↦ absurd (other.1 (sym here.1)) ]
]
turned m Lost is = refl

-- all old, or all new, or not sound
pub old_new_or_unsound : (m : ℕ) (os ns xs : List Content) → has m (cells_of os) ≡ false → AllMark m ns → Mixed os ns xs → (xs ≡ os) ⊎ (xs ≡ ns) ⊎ (is_sound (cells_of xs) ≡ false)
old_new_or_unsound m [] [] [] fresh new mixed = inl refl
old_new_or_unsound m (o ∷ os) (n ∷ ns) (x ∷ xs) fresh new mixed =
    let parts = or_parts (same_mark (Mark m) (cell_of o)) (has m (cells_of os)) fresh in
    elim mixed.0 [
      | inl is ↦ elim (from_old m (cell_of x) (o ∷ os) (n ∷ ns) (x ∷ xs) (ap (λ (c : Content). same_mark (cell_of c) (Mark m)) is ∙ turned m (cell_of o) parts.0) new mixed) [
        | inl all ↦ inl all
        | inr differ ↦ inr (inr differ)
      ]
      | inr is ↦ elim (from_new m (o ∷ os) (n ∷ ns) (x ∷ xs) fresh mixed) [
        | inl all ↦ inr (inl all)
        | inr differ ↦ inr (inr (ap (λ (c : Cell). list_all (same_mark c) (cells_of (x ∷ xs))) (ap cell_of is ∙ new.0) ∙ differ))
      ]
    ]
old_new_or_unsound m [] (n ∷ ns) xs fresh new mixed = absurd mixed
old_new_or_unsound m (o ∷ os) [] xs fresh new mixed = absurd mixed
old_new_or_unsound m [] [] (x ∷ xs) fresh new mixed = absurd mixed
old_new_or_unsound m (o ∷ os) (n ∷ ns) [] fresh new mixed = absurd mixed

-- a sector that gets a mark has it
mark_of : (m : ℕ) (s : List ℕ) → length s ≡ 512 → slice_index (take 511 s ++ m ∷ []) 511 ≡ m
mark_of m s long = get_or_at (take 511 s) m [] 0 511 (omega (arith, long, length-take 511 s))

pub all_marked : (m : ℕ) (image : List (List ℕ)) → AllByRecursion (λ s. length s ≡ 512) image → AllMark m (readable (with_mark m image))
all_marked m [] whole = tt
all_marked m (s ∷ image) whole = (ap (λ (k : ℕ). Mark k) (mark_of m s whole.0), all_marked m image whole.1)

-- what a crash leaves of a page
pub page_left : (os xs : List Content) (image : List (List ℕ)) → length os ≡ 16 → AllByRecursion (λ s. length s ≡ 512) image → Mixed os (written_over os image) xs → (xs ≡ os) ⊎ (xs ≡ written_over os image) ⊎ (is_sound (cells_of xs) ≡ false)
page_left os xs image long whole mixed =
    old_new_or_unsound (mark_after (cells_of os)) os (written_over os image) xs (after_is (cells_of os) (omega (arith, long, length-map os cell_of)) (omega (arith, long, length-map os cell_of))) (all_marked (mark_after (cells_of os)) image whole) mixed
