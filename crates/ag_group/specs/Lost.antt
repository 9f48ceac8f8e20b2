-- What is known of a group that hasn't given up.
use Rattle.std.specs.Prelude.{◌≡◌, Bool, false}
use Rattle.ag_rules.specs.Group.{Group}
use Rattle.ag_rules.specs.Script.{IsConfig}
use Rattle.ag_law_logs.specs.Reached.{IsReached}

-- unless it is lost, it is the group after some script from the opening on
abbrev pub IsReachedUnless : Bool → Group → Type 0
IsReachedUnless is_lost g = is_lost ≡ false → IsConfig g.config × IsReached g.config g
