-- What the cells of a page's image say.
use Rattle.std.proofs.Common.{◌≡◌, ℕ, ◌+◌, ◌-◌, ◌<◌, ◌≤◌, Bool, true, false, List, [], ◌∷◌, map, get_or, refl, sym, ap, subst, ◌∙◌, inl, inr, arith}
use Rattle.std.specs.Prelude.{Option, Some, None, not, ◌&&◌, ◌||◌, if◌then◌else◌}
use Rattle.std.specs.List.{list_any, list_all}
use Rattle.std.proofs.lemmas.List.FromFn.{get_or-map-range_with_len}
use Rattle.ag_model.specs.declared.answer.Cell.{Cell}
use Rattle.ag_model.specs.declared.answer.Cell.TheVariants.{Mark, Lost as LostCell}
use Rattle.ag_model.specs.declared.value.PageValue.{PageValue}
use Rattle.ag_model.specs.Cells.{is_sound, has_lost, is_lost, same_mark}
use Rattle.ag_model.specs.Rows.{contains}
use Rattle.ag_outside.specs.Disks.{Image}
use Rattle.ag_page.specs.declared.home.Got.{Got}
use Rattle.ag_page.specs.declared.home.Got.TheVariants.{Sound, Torn, Lost}
use Rattle.ag_page.specs.Home.{cells_of, found, readable}
use Rattle.ag_pagestore.specs.Places.{image_of, page_cells}
use Rattle.ag_stripe.specs.Known.{Known, Says, in_home, in_image}
use Rattle.ag_stripe.specs.Known.Known.{Value}
use Rattle.ag_stripe.proofs.Images.{home-sound}
use Rattle.ag_keeping.specs.Keeping.{cells_on}
use Rattle.ag_law_pages.specs.Images.{IsDataPage}

-- the cells of a data page
pub kept-cells : (pages page : ℕ) (disk : Image) → IsDataPage pages page → get_or (cells_on pages disk) (page - 16) [] ≡ page_cells disk page
kept-cells pages page disk is = get_or-map-range_with_len (page_cells disk) 16 pages (page - 16) page [] (omega (arith, is.0, is.1)) (omega (arith, is.0))

-- where a sector is lost not all have one mark
lost-differs : (c : Cell) (cells : List Cell) → has_lost cells ≡ true → list_all (same_mark c) cells ≡ false
lost-differs c [] e = absurd (false_true e)
  where
    false_true : false ≡ true → ⊥
    false_true e = cc
lost-differs (Mark m) (LostCell ∷ cells) e = refl
lost-differs LostCell (LostCell ∷ cells) e = refl
lost-differs LostCell (Mark n ∷ cells) e = refl
lost-differs (Mark m) (Mark n ∷ cells) e = ap (λ (b : Bool). same_mark (Mark m) (Mark n) && b) (lost-differs (Mark m) cells e) ∙ and-false (same_mark (Mark m) (Mark n))
  where
    and-false : (b : Bool) → (b && false) ≡ false
    and-false true = refl
    and-false false = refl

-- what is found of an image is sound exactly where its cells are
found-by : (lost sound : Bool) → (lost ≡ true → sound ≡ false) → ((if lost then Lost else if sound then Sound else Torn) ≡ Sound → sound ≡ true) × (((if lost then Lost else if sound then Sound else Torn) ≡ Sound → ⊥) → sound ≡ false)
found-by true sound apart = ((λ e. absurd (lost-sound e)), (λ _. apart refl))
  where
    lost-sound : Lost ≡ Sound → ⊥
    lost-sound e = cc
found-by false true apart = ((λ _. refl), (λ off. absurd (off refl)))
found-by false false apart = ((λ e. absurd (torn-sound e)), (λ _. refl))
  where
    torn-sound : Torn ≡ Sound → ⊥
    torn-sound e = cc

pub found-sound : (disk : Image) (page : ℕ) → found (image_of disk page) ≡ Sound → is_sound (page_cells disk page) ≡ true
found-sound disk page e = (found-by (has_lost (page_cells disk page)) (is_sound (page_cells disk page)) (lost-differs (get_or (page_cells disk page) 0 LostCell) (page_cells disk page))).0 e

pub found-bad : (disk : Image) (page : ℕ) → (found (image_of disk page) ≡ Sound → ⊥) → is_sound (page_cells disk page) ≡ false
found-bad disk page off = (found-by (has_lost (page_cells disk page)) (is_sound (page_cells disk page)) (lost-differs (get_or (page_cells disk page) 0 LostCell) (page_cells disk page))).1 off

-- a sound image that was read says what its bytes say
pub read-says : (disk : Image) (page : ℕ) (image : List (List ℕ)) (v w : PageValue) → found (image_of disk page) ≡ Sound → image_of disk page ≡ readable image → in_home (Some (image_of disk)) page ≡ Value v → in_image page image ≡ Value v
read-says disk page image v w sound bytes says = go (in_image page image) (home-sound (Some (image_of disk)) page image (in_image page image) (sym sound) bytes refl)
  where
    go : (k : Known) → Says (in_home (Some (image_of disk)) page) k → k ≡ Value v
    go k h = subst (λ (x : Known). Says x k) says h
