-- What a line is.
use Rattle.std.specs.Prelude.{ℕ, List}
use Rattle.ag_model.specs.declared.config.Config.{Config}
use Rattle.ag_script.specs.declared.script.Line.{Line}
use Rattle.ag_script.specs.declared.script.Line.TheVariants.{Skipped, Says, Bad}
use Rattle.ag_script.specs.Lines.{IsLine, IsSkipped, IsBad}

-- the line is of this kind
abbrev pub IsOfKind : Config → List ℕ → Line → Type 0
IsOfKind c line Skipped = IsSkipped line
IsOfKind c line (Says e) = IsLine c line e
IsOfKind c line Bad = IsBad c line
