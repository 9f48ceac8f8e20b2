-- Versions in the bytes of a page, one after the other.
use Rattle.std.specs.Prelude.{◌≡◌, ℕ, ◌+◌, ◌≤◌, List, ◌++◌, length, take, drop, true}
use Rattle.std.specs.Int.{Width, byte_len, from_be_bytes}
use Rattle.ag_model.specs.declared.value.Version.{Version}
use Rattle.ag_model.specs.Sizes.{change_size, versions_size}
use Rattle.ag_page.specs.Spelling.{version_spelling, has_spelling, IsVersion}

-- the number at a place, the highest byte first
abbrev pub number_in : Width → List ℕ → ℕ → ℕ
number_in w bytes at = from_be_bytes w (take (byte_len w) (drop at bytes))

-- where the version of an index begins, in bytes from the front of the page
abbrev pub place_of : List Version → ℕ → ℕ
place_of versions i = 32 + versions_size (take i versions)

-- this version stands at a place
pub record StandsAt (bytes : List ℕ) (at : ℕ) (w : Version) : Type 0 where
  pub whole : length bytes ≡ 8176
  pub spelled : has_spelling w.change ≡ true
  pub range : IsVersion w
  pub room : at + change_size w.change ≤ 8176
  pub there : drop at bytes ≡ version_spelling w ++ drop (at + change_size w.change) bytes

-- some version stands at a place
abbrev pub IsEntry : List ℕ → ℕ → Type 0
IsEntry bytes at = (w : Version) × StandsAt bytes at w
