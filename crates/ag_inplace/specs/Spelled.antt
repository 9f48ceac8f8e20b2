-- The page value that an image has.
use Rattle.std.specs.Prelude.{◌≡◌, ℕ, ◌<◌, List, true}
use Rattle.std.specs.List.{AllByRecursion}
use Rattle.ag_model.specs.declared.value.Version.{Version}
use Rattle.ag_model.specs.declared.value.PageValue.{PageValue}
use Rattle.ag_page.specs.Image.{image_bytes}
use Rattle.ag_page.specs.Spelling.{page_bytes, has_image, IsInRange}

-- the bytes of the image are those of the page value, whatever its marks are
pub record Spells (image : List (List ℕ)) (v : PageValue) : Type 0 where
  pub fits : has_image v ≡ true
  pub range : IsInRange v
  pub bytes : image_bytes image ≡ page_bytes v

-- the bytes of the image are those of some page value
abbrev pub IsPage : List (List ℕ) → Type 0
IsPage image = (v : PageValue) × Spells image v

-- the LSNs of versions are below this one
abbrev pub AreBelow : ℕ → List Version → Type 0
AreBelow lsn versions = AllByRecursion (λ w. w.lsn < lsn) versions
