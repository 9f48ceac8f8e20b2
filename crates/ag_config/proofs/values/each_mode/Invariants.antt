use Rattle.std.proofs.Common.{◌≡◌, map, drop}
use Rattle.toml.specs.View.{view}
use Rattle.ag_config.specs.Head as spec
use Rattle.ag_config.proofs.Modes.{modes_with}
use Rattle.ag_config.proofs.values.each_mode.Given as goal

abbrev pub invariant-loop-value : goal.invariant-loop-value
invariant-loop-value l = spec.each_mode (map view l.values.items) ≡ modes_with l.modes (map view (drop l.value-index l.values.items))
