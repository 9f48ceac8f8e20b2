use Rattle.std.proofs.Common.{ℕ, List, Result, Ok, Err, IfOk}
use Rattle.ag_model.specs.declared.config.Config.{Config}
use Rattle.ag_rules.specs.Script.{IsConfig}
use Rattle.ag_config.specs.declared.fault.ConfigFault.{ConfigFault}
use Rattle.ag_config.specs.Head.{config_of_head}
use Rattle.ag_config.specs.Outcomes.{Answers}
use Rattle.ag_config.proofs.Ranges.{head_range}
use Rattle.ag_config.proofs.head.read_config.Goals as goal

in_range : (head : List ℕ) (r : Result Config ConfigFault) → Answers r (config_of_head head) → IfOk r (λ c. IsConfig c)
in_range head (Ok c) told = head_range head c told
in_range head (Err e) told = tt

pub returns-clause-in_range : goal.returns-clause-in_range
returns-clause-in_range c = in_range c.args.head.now c.read_head.result c.read_head.ensures
