-- Where the versions of a page stand.
use Rattle.std.specs.Prelude.{◌≡◌, ℕ, ◌<◌, ◌≤◌, List, length, slice_index, slice_index_or}
use Rattle.ag_model.specs.declared.value.Version.{Version}
use Rattle.ag_inplace.specs.declared.directory.Directory.{Directory}
use Rattle.ag_inplace.specs.Entries.{place_of, StandsAt}

-- these versions stand in the bytes one behind the other, and the directory has their places, the last of which is their end
pub record Lists (bytes : List ℕ) (d : Directory) (versions : List Version) : Type 0 where
  pub count : d.count ≡ length versions
  pub places : (k : ℕ) → k ≤ length versions → slice_index d.places k ≡ place_of versions k
  pub stands : (k : ℕ) (x : Version) → k < length versions → StandsAt bytes (place_of versions k) (slice_index_or versions k x)

-- the directory has the places of some versions
abbrev pub IsListed : List ℕ → Directory → Type 0
IsListed bytes d = (versions : List Version) × Lists bytes d versions
