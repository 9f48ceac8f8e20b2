-- What is found of an image of which no sector is lost.
use Rattle.std.proofs.Common.{◌≡◌, ℕ, Bool, false, cond, eqb, ◌&&◌, List, [], ◌∷◌, get_or, map, slice_index, refl, ap, ◌∙◌}
use Rattle.std.specs.List.{list_all, list_any}
use Rattle.ag_model.specs.declared.answer.Cell.{Cell}
use Rattle.ag_model.specs.declared.answer.Cell.TheVariants.{Mark}
use Rattle.ag_model.specs.Cells.{same_mark, is_sound, is_lost, has_lost}
use Rattle.ag_page.specs.declared.home.Got.TheVariants.{Sound, Torn, Lost}
use Rattle.ag_page.specs.Home.{cells_of, found, readable}
use Rattle.ag_page.specs.Image.{marks}

cells-marks : (image : List (List ℕ)) → cells_of (readable image) ≡ map (λ m. Mark m) (marks image)
cells-marks [] = refl
cells-marks (s ∷ image) = ap (λ (z : List Cell). Mark (slice_index s 511) ∷ z) (cells-marks image)

none-lost : (ms : List ℕ) → list_any is_lost (map (λ m. Mark m) ms) ≡ false
none-lost [] = refl
none-lost (m ∷ ms) = none-lost ms

all-same : (a : ℕ) (ms : List ℕ) → list_all (same_mark (Mark a)) (map (λ m. Mark m) ms) ≡ list_all (λ m. eqb a m) ms
all-same a [] = refl
all-same a (m ∷ ms) = ap (λ (b : Bool). eqb a m && b) (all-same a ms)

-- whether the marks of an image are sound
marks-sound : (ms : List ℕ) → is_sound (map (λ m. Mark m) ms) ≡ list_all (λ m. eqb (get_or ms 0 0) m) ms
marks-sound [] = refl
marks-sound (m ∷ ms) = all-same m (m ∷ ms)

-- it is sound where all marks are the first one, and else torn
pub found-is : (image : List (List ℕ)) → found (readable image) ≡ cond (list_all (λ m. eqb (get_or (marks image) 0 0) m) (marks image)) Sound Torn
found-is image =
    let cells = map (λ (m : ℕ). Mark m) (marks image) in
    ap (λ (z : List Cell). cond (has_lost z) Lost (cond (is_sound z) Sound Torn)) (cells-marks image)
    ∙ ap (λ (b : Bool). cond b Lost (cond (is_sound cells) Sound Torn)) (none-lost (marks image))
    ∙ ap (λ (b : Bool). cond b Sound Torn) (marks-sound (marks image))
