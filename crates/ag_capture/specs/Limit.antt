-- The snapshots that a trim keeps to.
use Rattle.std.specs.Prelude.{ℕ, List, [], ◌∷◌, Option, Some, None}

-- the least snapshot of some transactions, if there is one, as a list
abbrev pub snapshots_of : Option ℕ → List ℕ
snapshots_of None = []
snapshots_of (Some snapshot) = snapshot ∷ []
