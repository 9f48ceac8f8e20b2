-- What is known of a page's value.
use Rattle.std.specs.Prelude.{◌≡◌, ℕ, List, [], Bool, true, false, ◌&&◌, ◌==◌, if◌then◌else◌, map, Option, Some, None, Result, Ok, Err}
use Rattle.ag_model.specs.declared.value.PageValue.{PageValue}
use Rattle.ag_model.specs.declared.value.Version.{Version}
use Rattle.ag_page.specs.declared.fault.PageFault.{PageFault}
use Rattle.ag_page.specs.declared.home.Got.{Got}
use Rattle.ag_page.specs.declared.home.Got.TheVariants.{Sound, Torn, Lost}
use Rattle.ag_page.specs.Home.{found}
use Rattle.ag_page.specs.Image.{image_bytes}
use Rattle.ag_page.specs.Reading.{page_at}
use Rattle.ag_stripe.specs.Tables.{Table, slot_of}

-- what the home tells: the sectors of each page, or nothing
abbrev pub Told : Type 0
Told = Option (ℕ → List (Option (List ℕ)))

-- a page has a value; or its image isn't sound, or is sound and no image of it; or the home doesn't tell
pub data Known : Type 0 where
  Value : PageValue → Known
  NotSound : Known
  NotItsImage : Known
  Untold : Known

-- the empty page of this number
abbrev pub empty_page : ℕ → PageValue
empty_page page = record { page = page; lsn = 0; horizon = 0; versions = [] }

-- whether there is no version
abbrev pub is_bare : List Version → Bool
is_bare [] = true
is_bare _ = false

-- whether a page value is the empty page of the number 0
abbrev pub is_zero_page : PageValue → Bool
is_zero_page v = (v.page == 0) && (v.lsn == 0) && (v.horizon == 0) && is_bare v.versions

-- a page value read from an image at the place of this page: that of the page, or the empty one for the empty one of the number 0
abbrev pub at_place : ℕ → PageValue → Known
at_place page v = if v.page == page then Value v else if is_zero_page v then Value (empty_page page) else NotItsImage

-- what was read from an image, at the place of this page
abbrev pub as_read : ℕ → Result PageValue PageFault → Known
as_read page (Ok v) = at_place page v
as_read page (Err e) = NotItsImage

-- the bytes of a sector that isn't lost
abbrev pub bytes_of : Option (List ℕ) → List ℕ
bytes_of (Some bytes) = bytes
bytes_of None = []

-- the value of a page, by the bytes of its sectors
unfoldable pub in_image : ℕ → List (List ℕ) → Known
in_image page image = as_read page (page_at (image_bytes image))

-- what was found of a page: its value, or that its image isn't sound
abbrev pub found_as : Option PageValue → Known
found_as (Some v) = Value v
found_as None = NotSound

-- what is known of a page by what is found of its image
abbrev pub by_found : Got → Known → Known
by_found Sound k = k
by_found Torn k = NotSound
by_found Lost k = NotSound

-- what is known of a page by the image that the home has
unfoldable pub in_home : Told → ℕ → Known
in_home (Some images) page = by_found (found (images page)) (in_image page (map bytes_of (images page)))
in_home None page = Untold

-- what is known of a page by what memory keeps of it, and else by the home
abbrev pub known_by : Told → ℕ → Option PageValue → Known
known_by told page (Some v) = Value v
known_by told page None = in_home told page

-- what is known of a page
abbrev pub known : Told → Table → ℕ → Known
known told t page = known_by told page (slot_of t page).value

-- what is known is this, unless the home doesn't tell
abbrev pub Says : Known → Known → Type 0
Says Untold k = Unit {0}
Says (Value v) k = k ≡ Value v
Says NotSound k = k ≡ NotSound
Says NotItsImage k = k ≡ NotItsImage
