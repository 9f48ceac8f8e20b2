-- What a call answers, beside what is to come.
use Rattle.std.specs.Prelude.{◌≡◌, Result, Ok, Err, ⊤}
use Rattle.ag_config.specs.declared.fault.ConfigFault.{ConfigFault}
use Rattle.ag_config.specs.declared.fault.ConfigFault.TheVariants.{BadConfig, NoMemory}
use Rattle.ag_config.specs.declared.fault.ConfigKey.{ConfigKey}

-- the answer is the value or the fault that is to come, unless memory was refused
abbrev pub Answers : {X : Type 0} → Result X ConfigFault → Result X ConfigKey → Type 0
Answers (Ok x) outcome = outcome ≡ Ok x
Answers (Err (BadConfig key)) outcome = outcome ≡ Err key
Answers (Err NoMemory) outcome = ⊤
