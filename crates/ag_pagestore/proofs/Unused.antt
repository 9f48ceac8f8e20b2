-- The marks from 1 to 17 that no readable sector has.
use Rattle.std.proofs.Common.{◌≡◌, ◌+◌, ◌-◌, ◌<◌, ◌≤◌, ℕ, suc, List, ◌∷◌, Bool, true, false, not, cond, refl, ap, ◌∙◌, arith}
use Rattle.std.specs.List.{filter, list_any, range_with_len}
use Rattle.ag_model.specs.declared.answer.Cell.{Cell}
use Rattle.ag_model.specs.declared.answer.Cell.TheVariants.{Mark}
use Rattle.ag_model.specs.Cells.{same_mark, first_or_zero, free_mark}

-- of so many marks from this one on, those that no sector has
unfoldable pub unused : List Cell → ℕ → ℕ → List ℕ
unused cells from n = filter (λ m. not (list_any (same_mark (Mark m)) cells)) (range_with_len from n)

pub all_unused : (cells : List Cell) → first_or_zero (unused cells 1 17) ≡ free_mark cells
unfolding unused
all_unused cells = refl

pub unused-step : (cells : List Cell) (from n : ℕ) (b : Bool) → list_any (same_mark (Mark from)) cells ≡ b → unused cells from (suc n) ≡ cond b (unused cells (from + 1) n) (from ∷ unused cells (from + 1) n)
unfolding unused
unused-step cells from n true is = ap (λ (b : Bool). cond (not b) (from ∷ unused cells (from + 1) n) (unused cells (from + 1) n)) is
unused-step cells from n false is = ap (λ (b : Bool). cond (not b) (from ∷ unused cells (from + 1) n) (unused cells (from + 1) n)) is

-- a mark that a sector has
pub unused-more : (cells : List Cell) (mark : ℕ) → mark < 18 → list_any (same_mark (Mark mark)) cells ≡ true → unused cells mark (18 - mark) ≡ unused cells (mark + 1) (18 - (mark + 1))
unused-more cells mark lt is =
    let left : 18 - mark ≡ suc (18 - (mark + 1)) = omega arith in
    ap (unused cells mark) left ∙ unused-step cells mark (18 - (mark + 1)) true is

-- one that no sector has
pub unused-first : (cells : List Cell) (mark : ℕ) → mark < 18 → list_any (same_mark (Mark mark)) cells ≡ false → first_or_zero (unused cells mark (18 - mark)) ≡ mark
unused-first cells mark lt is =
    let left : 18 - mark ≡ suc (18 - (mark + 1)) = omega arith in
    ap first_or_zero (ap (unused cells mark) left ∙ unused-step cells mark (18 - (mark + 1)) false is)

pub unused-none : (cells : List Cell) (mark : ℕ) → 18 ≤ mark → first_or_zero (unused cells mark (18 - mark)) ≡ 0
unfolding unused
unused-none cells mark le = let left : 18 - mark ≡ 0 = omega arith in ap (λ (n : ℕ). first_or_zero (unused cells mark n)) left
