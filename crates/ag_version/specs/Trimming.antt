-- Which versions a Trim leaves out because of later ones.
use Rattle.std.specs.Prelude.{ℕ, List, Bool, ◌&&◌, ◌==◌}
use Rattle.std.specs.List.{list_any}
use Rattle.ag_model.specs.declared.value.Version.{Version}
use Rattle.ag_model.specs.Page.{is_before, is_committed_at}

-- whether the second version is of the key of the first, committed at most at the horizon, and comes after it
abbrev pub follows : ℕ → Version → Version → Bool
follows horizon v w = (w.key == v.key) && is_committed_at horizon w && is_before v w

-- whether one of these versions follows it
abbrev pub is_followed : ℕ → List Version → Version → Bool
is_followed horizon versions v = list_any (follows horizon v) versions
