use Rattle.std.proofs.Common.{◌≡◌, ◌<◌, length, sym, ap, ◌∙◌, arith}
use Rattle.ag_rules.specs.Group.{Group}
use Rattle.ag_rules.specs.LookEvent.{status_part}
use Rattle.ag_group.specs.Seen.{GroupView, group_of, replicas_of}
use Rattle.ag_group.proofs.Nodes.{count_is, node_read}
use Rattle.ag_group.proofs.Lifts.{told, status_free, status_left, wrote}
use Rattle.ag_group.proofs.members.Members.status.Goals as goal

pub returns-clause-answer : goal.returns-clause-answer
returns-clause-answer g c =
    let inside = c.self.inside in
    let group : Group = group_of inside.config inside.nodes.items inside.links.items inside.register inside.tokens.items in
    let same : group ≡ c.args.self.now.group = ap (λ (v : GroupView). v.group) c.self.view_is in
    let within : c.args.n < length (replicas_of c.self.inside.nodes.items) = omega (arith, count_is c.self.inside.nodes.items, c.self.invariant.each, c.requires.node, ap (λ (g : Group). length g.config.modes) same) in
    told status_part status_free group c.args.self.now.group c.args.n c.from.result c.site-site.result c.index-node.result.now.replica c.status.result within
    c.site-site.ensures.number (c.site-site.ensures.pages ∙ ap (λ (g : Group). g.config.pages) (sym same)) (c.site-site.ensures.store ∙ ap (λ (g : Group). g.register) (sym same)) c.from.ensures (node_read c.self.inside.nodes.items c.from.result c.index-node.result.now c.index-node.ensures) c.status.ensures.answer same

pub returns-clause-left : goal.returns-clause-left
returns-clause-left g c = status_left c.args.self.now.group c.args.n

pub returns-clause-writes : goal.returns-clause-writes
returns-clause-writes g c =
    let inside = c.self.inside in
    let group : Group = group_of inside.config inside.nodes.items inside.links.items inside.register inside.tokens.items in
    let same : group ≡ c.args.self.now.group = ap (λ (v : GroupView). v.group) c.self.view_is in
    let within : c.args.n < length (replicas_of c.self.inside.nodes.items) = omega (arith, count_is c.self.inside.nodes.items, c.self.invariant.each, c.requires.node, ap (λ (g : Group). length g.config.modes) same) in
    wrote status_part status_free group c.args.self.now.group c.args.n c.from.result c.site-site.result c.index-node.result.now.replica within
    c.site-site.ensures.number (c.site-site.ensures.pages ∙ ap (λ (g : Group). g.config.pages) (sym same)) (c.site-site.ensures.store ∙ ap (λ (g : Group). g.register) (sym same)) c.from.ensures (node_read c.self.inside.nodes.items c.from.result c.index-node.result.now c.index-node.ensures) c.status.ensures.writes same
