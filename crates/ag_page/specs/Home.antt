-- Where images are at home, and what their reading and writing leaves.
use Rattle.std.specs.Prelude.{◌≡◌, ℕ, ◌-◌, ◌^◌, ◌<◌, ◌⊎◌, List, [], ◌∷◌, ◌++◌, take, map, slice_index, Bool, if◌then◌else◌, ◌==◌, Option, Some, None}
use Rattle.ag_model.specs.declared.answer.Cell.{Cell}
use Rattle.ag_model.specs.declared.answer.Cell.TheVariants.{Mark, Lost as LostCell}
use Rattle.ag_model.specs.Cells.{is_sound, has_lost, mark_after}
use Rattle.ag_page.specs.declared.home.Got.{Got}
use Rattle.ag_page.specs.declared.home.Got.TheVariants.{Sound, Torn, Lost}

-- the count is greater than it was, or as high as a count can be
abbrev pub HasRisen : ℕ → ℕ → Type 0
HasRisen before now = (before < now) ⊎ (now ≡ 2 ^ 64 - 1)

-- the cell of a sector, which is its bytes, or nothing where it is lost
abbrev pub cell_of : Option (List ℕ) → Cell
cell_of None = LostCell
cell_of (Some bytes) = Mark (slice_index bytes 511)

-- the cells of an image's sectors
abbrev pub cells_of : List (Option (List ℕ)) → List Cell
cells_of sectors = map cell_of sectors

-- what a fetch finds: a lost sector, else marks that differ, else a sound image
abbrev pub found : List (Option (List ℕ)) → Got
found sectors = if has_lost (cells_of sectors) then Lost else if is_sound (cells_of sectors) then Sound else Torn

-- the sectors of an image of which none is lost
abbrev pub readable : List (List ℕ) → List (Option (List ℕ))
readable image = map (λ s. Some s) image

-- an image with another mark
abbrev pub with_mark : ℕ → List (List ℕ) → List (List ℕ)
with_mark mark image = map (λ s. take 511 s ++ mark ∷ []) image

-- the sectors after an image was written over these
abbrev pub written_over : List (Option (List ℕ)) → List (List ℕ) → List (Option (List ℕ))
written_over old image = readable (with_mark (mark_after (cells_of old)) image)

-- the images of all pages after one was written
abbrev pub with_page : (ℕ → List (Option (List ℕ))) → ℕ → List (List ℕ) → ℕ → List (Option (List ℕ))
with_page images page image q = if q == page then written_over (images page) image else images q

-- one writing of a page: the image that was given, and whether it was refused
pub record PutBack : Type 0 where
  pub page : ℕ
  pub image : List (List ℕ)
  pub refused : Bool
