-- The invariant of every run: a log for each term, of which each replica's log is a beginning.
use Rattle.std.specs.Prelude.{◌≡◌, ℕ, ◌<◌, length}
use Rattle.std.specs.List.{AllByRecursion}
use Rattle.ag_rules.specs.Group.{Group, replica, link}
use Rattle.ag_laws.specs.Logs.{Logs, Setting, AreLogs}
use Rattle.ag_laws.specs.At.{At}
use Rattle.ag_laws.specs.Fits.{MessageFits}

-- a group whose terms have these logs: of its store, its replicas, its messages and its tokens
pub record Good (s : Setting) (logs : Logs) (g : Group) : Type 0 where
  pub are : AreLogs s logs
  pub now : g.register.term ≡ s.now
  pub primary : g.register.primary ≡ s.leader s.now
  pub there : g.register.primary < length g.replicas
  pub config : g.config ≡ s.config
  pub count : length g.replicas ≡ length s.config.modes
  pub each : (n : ℕ) → At s logs n (replica g n)
  pub messages : (a b : ℕ) → AllByRecursion (MessageFits s logs (replica g a) b (replica g b)) (link g a b)
  pub tokens : length g.tokens ≡ 64
