use Rattle.std.proofs.Common.{◌≡◌, ap, ◌∙◌, subst, sym, length, replicate, []}
use Rattle.ag_model.specs.declared.config.Config.{Config}
use Rattle.ag_model.specs.declared.config.Register.{Register}
use Rattle.ag_rules.specs.Group.{opening_replicas}
use Rattle.ag_rules.specs.Script.{IsConfig}
use Rattle.ag_group.proofs.Openings.{count_of_faults, group_opened}
use Rattle.ag_group.proofs.members.Members.create.Goals as goal

pub invariant_of-result : goal.invariant_of-result
invariant_of-result g c =
    let parts = c.in-Ok.parts in
    let same : c.args.config.now ≡ parts.config = sym c.in-Ok.ensures.config in
    group_opened parts.config c.in-Ok-opening_nodes.nodes.items parts.links.items parts.register parts.tokens.items
    (subst (λ (x : Config). IsConfig x) same c.requires.config)
    (c.in-Ok-opening_nodes.ensures.nodes ∙ (λ i. opening_replicas (same i) (same i).modes))
    (c.in-Ok.ensures.links ∙ (λ i. replicate (length (same i).modes) (replicate (length (same i).modes) [])))
    c.in-Ok.ensures.tokens
    (ap (λ (r : Register). r.primary) c.in-Ok.ensures.register)
    (ap (λ (r : Register). r.term) c.in-Ok.ensures.register)

pub returns-in-Ok-opening_nodes-clause-faults : goal.returns-in-Ok-opening_nodes-clause-faults
returns-in-Ok-opening_nodes-clause-faults g c = count_of_faults c.args.config.now c.in-Ok-opening_nodes.nodes.items c.in-Ok-opening_nodes.ensures.nodes
