-- How the group may go on: what each event keeps.
use Rattle.std.specs.Prelude.{◌≡◌, ◌≢◌, ℕ, ◌+◌, ◌≤◌}
use Rattle.ag_rules.specs.Group.{Group, replica}
use Rattle.ag_rules.specs.Next.{token}
use Rattle.ag_rules.specs.SessionLaw.{Reaches}
use Rattle.ag_laws.specs.Prefix.{IsPrefixOf}
use Rattle.ag_laws.specs.Logs.{Logs, Setting}
use Rattle.ag_laws.specs.Good.{Good}

-- which logs may have grown from one group to the next: those whose leader has their term afterwards
pub record Later (s : Setting) (logs : Logs) (after : Setting) (grown : Logs) (g : Group) : Type 0 where
  pub longer : (t : ℕ) → IsPrefixOf (logs t) (grown t)
  pub others : (t : ℕ) → (replica g (after.leader t)).term ≢ t → logs t ≡ grown t
  pub config : s.config ≡ after.config
  pub now : s.now ≤ after.now
  pub leader : (t : ℕ) → t ≤ s.now → s.leader t ≡ after.leader t

-- the group after is as good, with logs that may have grown, and perhaps in the next term; no session's token falls
pub record Keeps (s : Setting) (logs : Logs) (before after : Group) : Type 0 where
  pub setting : Setting
  pub step : setting.now ≤ s.now + 1
  pub grown : Logs
  pub later : Later s logs setting grown after
  pub good : Good setting grown after
  pub sessions : (x : ℕ) → Reaches (token before x) (token after x)
