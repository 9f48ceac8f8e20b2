-- What is seen of a node.
use Rattle.std.specs.Prelude.{ℕ}
use Rattle.ag_rules.specs.Replica.{Replica}

-- a node as a replica of the rules, and how often its disk has failed
pub record NodeView : Type 0 where
  pub replica : Replica
  pub faults : ℕ
