use Rattle.std.proofs.Common.{ap, ◌∙◌}
use Rattle.ag_rules.specs.Group.{Group}
use Rattle.ag_group.proofs.Runs.{config_at_opening}
use Rattle.ag_play_t.proofs.groups.follow.Goals as goal

pub events-init : goal.events-init
events-init c = ap (λ (x : Group). x.config) c.in-Ok-create.ensures.opening ∙ config_at_opening c.in_ok-config.config
