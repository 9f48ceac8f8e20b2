use Rattle.std.proofs.Common.{◌≡◌}
use Rattle.ag_play_t.proofs.groups.follow.Given as goal

abbrev pub invariant-events : goal.invariant-events
invariant-events l = l.group.group.config ≡ l.config
