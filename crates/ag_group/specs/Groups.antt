-- What holds of the fields of each group.
use Rattle.std.specs.Prelude.{◌≡◌, ℕ, ◌<◌, List, length}
use Rattle.std.specs.List.{AllByRecursion}
use Rattle.ag_model.specs.declared.config.Config.{Config}
use Rattle.ag_model.specs.declared.config.Register.{Register}
use Rattle.ag_model.specs.declared.message.Message.{Message}
use Rattle.ag_rules.specs.Script.{IsConfig}
use Rattle.ag_node.specs.Seen.{NodeView}

-- there is a node a mode, with the pages of the config, a link from each to each, and 64 sessions
pub record IsGroup (config : Config) (nodes : List NodeView) (links : List (List (List Message))) (register : Register) (sessions : ℕ) : Type 0 where
  pub settings : IsConfig config
  pub each : length nodes ≡ length config.modes
  pub pages : AllByRecursion (λ node. length node.replica.pages ≡ config.pages) nodes
  pub rows : length links ≡ length config.modes
  pub columns : AllByRecursion (λ row. length row ≡ length config.modes) links
  pub primary : register.primary < length config.modes
  pub term : register.term ≡ 1
  pub tokens : sessions ≡ 64
