use Rattle.std.proofs.Common.{sym, ap, ◌∙◌}
use Rattle.ag_rules.specs.Replica.{Replica}
use Rattle.ag_node.proofs.HomeSteps.{up_by_following}
use Rattle.ag_node.proofs.Views.{replica_is}
use Rattle.ag_node.proofs.node.Node.follows.Goals as goal

pub returns-clause-up : goal.returns-clause-up
returns-clause-up g c e = ap (λ (r : Replica). r.up) (sym (replica_is c.self.view_is)) ∙ up_by_following c.self.inside.home.activity c.self.invariant.home.stands (sym c.follows.ensures ∙ e)
