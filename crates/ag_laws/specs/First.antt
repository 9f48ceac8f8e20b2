-- The logs of the terms at the opening.
use Rattle.std.specs.Prelude.{[], ◌∷◌, ◌==◌, if◌then◌else◌}
use Rattle.ag_model.specs.declared.config.Config.{Config}
use Rattle.ag_model.specs.declared.record.Record.TheVariants.{Term}
use Rattle.ag_laws.specs.Logs.{Logs, Setting}

-- the first replica leads term 1
abbrev pub first_setting : Config → Setting
first_setting c = record { config = c; now = 1; leader = λ t. 0 }

-- term 1 has its Term record alone
abbrev pub first_logs : Logs
first_logs t = if t == 1 then Term 1 ∷ [] else []
