-- An image: 16 sectors, each with 511 bytes of the page and a mark.
use Rattle.std.specs.Prelude.{ℕ, ◌*◌, List, [], ◌∷◌, ◌++◌, take, drop, map, slice_index}
use Rattle.std.specs.List.{flat_map, range_with_len}

-- the sector at this place
abbrev pub sector : ℕ → List ℕ → ℕ → List ℕ
sector mark bytes place = take 511 (drop (511 * place) bytes) ++ mark ∷ []

-- the image that has these bytes and one mark
unfoldable pub image : ℕ → List ℕ → List (List ℕ)
image mark bytes = map (sector mark bytes) (range_with_len 0 16)

-- the bytes of the page that an image has
abbrev pub image_bytes : List (List ℕ) → List ℕ
image_bytes sectors = flat_map (take 511) sectors

-- the marks of an image
abbrev pub marks : List (List ℕ) → List ℕ
marks sectors = map (λ s. slice_index s 511) sectors
