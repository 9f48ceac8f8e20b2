-- The row that a reader finds on a page.
use Rattle.std.specs.Prelude.{ℕ, List, [], ◌∷◌, Bool, false, ◌&&◌, ◌==◌, Option, Some, None}
use Rattle.std.specs.List.{filter}
use Rattle.ag_model.specs.declared.value.Row.{Row}
use Rattle.ag_model.specs.declared.value.Version.{Version}
use Rattle.ag_model.specs.declared.value.PageValue.{PageValue}
use Rattle.ag_model.specs.Page.{greatest, pick, row_of}

-- whether a version is of the reader's own transaction, where it has one
abbrev pub is_own : Option ℕ → Version → Bool
is_own None w = false
is_own (Some txn) w = w.txn == txn

-- the versions of a key that the reader's own transaction made
abbrev pub own_versions : Option ℕ → ℕ → List Version → List Version
own_versions own key versions = filter (λ w. (w.key == key) && is_own own w) versions

-- the row of the first of these versions, or this row
abbrev pub row_or : List Version → Row → Row
row_or [] row = row
row_or (w ∷ ws) row = row_of w.change

-- the row of a key at a snapshot, where the versions of the reader's own transaction come last
abbrev pub row_for : PageValue → ℕ → ℕ → Option ℕ → Row
row_for v key snapshot own = row_or (greatest (own_versions own key v.versions)) (pick v key snapshot)
