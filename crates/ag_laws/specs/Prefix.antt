-- Beginnings of logs.
use Rattle.std.specs.Prelude.{◌≡◌, List, ◌++◌}
use Rattle.ag_model.specs.declared.record.Record.{Record}

-- the second log goes on where the first one ends
abbrev pub IsPrefixOf : List Record → List Record → Type 0
IsPrefixOf a b = (rest : List Record) × (a ++ rest ≡ b)
