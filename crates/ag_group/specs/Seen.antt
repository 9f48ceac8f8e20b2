-- What is seen of a group over its disks.
use Rattle.std.specs.Prelude.{ℕ, List, map, Option}
use Rattle.ag_model.specs.declared.config.Config.{Config}
use Rattle.ag_model.specs.declared.config.Register.{Register}
use Rattle.ag_model.specs.declared.config.Token.{Token}
use Rattle.ag_model.specs.declared.message.Message.{Message}
use Rattle.ag_rules.specs.Replica.{Replica}
use Rattle.ag_rules.specs.Group.{Group}
use Rattle.ag_node.specs.Seen.{NodeView}

-- the group of the rules, and how often the disk of each replica has failed
pub record GroupView : Type 0 where
  pub group : Group
  pub faults : List ℕ

-- the replicas that the nodes are
abbrev pub replicas_of : List NodeView → List Replica
replicas_of nodes = map (λ node. node.replica) nodes

-- how often the disk of each node has failed
abbrev pub faults_of : List NodeView → List ℕ
faults_of nodes = map (λ node. node.faults) nodes

-- the group of these nodes
abbrev pub group_of : Config → List NodeView → List (List (List Message)) → Register → List (Option Token) → Group
group_of config nodes links register tokens = record { config = config; replicas = replicas_of nodes; links = links; register = register; tokens = tokens }
