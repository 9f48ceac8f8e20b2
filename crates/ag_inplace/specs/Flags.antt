-- Which versions of a page are kept.
use Rattle.std.specs.Prelude.{◌≡◌, ℕ, ◌<◌, List, length, slice_index_or, Bool, false}
use Rattle.std.specs.List.{filter}
use Rattle.ag_model.specs.declared.value.Version.{Version}
use Rattle.ag_model.specs.declared.value.PageValue.{PageValue}

-- the flag of each version is what the test says of it
abbrev pub Flags : (Version → Bool) → List Bool → List Version → Type 0
Flags test flags versions = (k : ℕ) (x : Version) → k < length versions → slice_index_or flags k false ≡ test (slice_index_or versions k x)

-- a page with the versions that pass a test, and this LSN and horizon
abbrev pub kept : (Version → Bool) → ℕ → ℕ → PageValue → PageValue
kept test lsn horizon v = record { page = v.page; lsn = lsn; horizon = horizon; versions = filter test v.versions }
