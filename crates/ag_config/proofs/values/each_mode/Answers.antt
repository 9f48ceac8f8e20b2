use Rattle.std.proofs.Common.{rules}
use Rattle.ag_config.proofs.Modes.{goes_on, stops, ends}
use Rattle.ag_config.proofs.values.each_mode.Goals as goal

pub returns-in_default : goal.returns-in_default
returns-in_default c = stops c.args.values.now.items c.loop-value.value-index c.value-item.result c.loop-value.modes (search rules) (search rules) (search rules) c.loop-value.invariant

pub loop-value-preserved : goal.loop-value-preserved
loop-value-preserved c = search (rules, goes_on c.args.values.now.items c.loop-value.value-index c.value-item.result c.loop-value.modes)

pub returns : goal.returns
returns c = ends c.args.values.now.items c.loop-value.value-index c.loop-value.modes (search rules) c.loop-value.invariant
