-- The torn pages, one page after the other.
use Rattle.std.proofs.Common.{◌≡◌, ℕ, ◌+◌, ◌-◌, ◌<◌, List, [], ◌∷◌, ◌++◌, Bool, if◌then◌else◌, sym, ap, ◌∙◌, arith}
use Rattle.std.specs.Prelude.{◌&&◌, not}
use Rattle.std.specs.List.{filter, range_with_len}
use Rattle.std.proofs.lemmas.List.{map-id}
use Rattle.std.proofs.lemmas.List.FromFn.{filter_of_map_range_with_len_more, get_or-map-range_with_len}
use Rattle.ag_model.specs.declared.answer.Cell.{Cell}
use Rattle.ag_model.specs.Cells.{is_sound}
use Rattle.ag_model.specs.Rows.{contains}
use Rattle.ag_outside.specs.Disks.{Image}
use Rattle.ag_pagestore.specs.Places.{page_cells}
use Rattle.ag_rules.specs.Replica.{image}
use Rattle.ag_rules.specs.Cut.{torn_pages}
use Rattle.ag_keeping.specs.Keeping.{kept_on}

-- the cells of one of so many pages
cells_at : (pages n : ℕ) (disk : Image) → n < pages → image (kept_on pages disk) (16 + n) ≡ page_cells disk (16 + n)
cells_at pages n disk lt = get_or-map-range_with_len (page_cells disk) 16 pages (16 + n - 16) (16 + n) [] (omega (arith, lt)) (let e : 16 + (16 + n - 16) ≡ 16 + n = omega arith in e)

pub torn_more : (pages n page : ℕ) (disk : Image) (named : List ℕ) → 16 + n ≡ page → n < pages
    → torn_pages (n + 1) (kept_on pages disk) named ≡ torn_pages n (kept_on pages disk) named ++ (if contains page named && not (is_sound (page_cells disk page)) then page ∷ [] else [])
torn_more pages n page disk named is lt =
    let f : ℕ → Bool = λ p. contains p named && not (is_sound (image (kept_on pages disk) p)) in
    sym (ap (filter f) (map-id (range_with_len 16 (n + 1))))
    ∙ filter_of_map_range_with_len_more f (λ (x : ℕ). x) 16 n page is
    ∙ ap (λ (xs : List ℕ). filter f xs ++ (if f page then page ∷ [] else [])) (map-id (range_with_len 16 n))
    ∙ ap (λ (cells : List Cell). torn_pages n (kept_on pages disk) named ++ (if contains page named && not (is_sound cells) then page ∷ [] else []))
    (ap (image (kept_on pages disk)) (sym is) ∙ cells_at pages n disk lt ∙ ap (page_cells disk) is)
