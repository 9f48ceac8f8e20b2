use Rattle.std.proofs.Common.{◌≡◌, ◌<◌, length, sym, ap, ◌∙◌, arith}
use Rattle.ag_rules.specs.Group.{Group}
use Rattle.ag_group.specs.Seen.{GroupView, group_of, replicas_of}
use Rattle.ag_group.proofs.Nodes.{count_is, node_read, with_node, pages_at, group_with}
use Rattle.ag_group.proofs.Lifts.{lifted, told, set_free, set_quiet, wrote}
use Rattle.ag_group.proofs.members.Members.set.Goals as goal
use Rattle.ag_rules.specs.SetEvent.{set_part}

pub returns-clause-after : goal.returns-clause-after
returns-clause-after g c =
    let inside = c.self.inside in
    let group : Group = group_of inside.config inside.nodes.items inside.links.items inside.register inside.tokens.items in
    let same : group ≡ c.args.self.now.group = ap (λ (v : GroupView). v.group) c.self.view_is in
    let within : c.args.n < length (replicas_of c.self.inside.nodes.items) = omega (arith, count_is c.self.inside.nodes.items, c.self.invariant.each, c.requires.node, ap (λ (g : Group). length g.config.modes) same) in
    with_node inside.config inside.nodes.items inside.links.items inside.register inside.tokens.items c.from.result c.set.new.self
    ∙ lifted (λ h r. set_part h r c.args.pairs.now) (set_free c.args.pairs.now) (set_quiet c.args.pairs.now) group c.args.self.now.group c.args.n c.from.result c.site-site.result c.index_mut-node.result.now.replica c.set.new.self.replica within
    c.site-site.ensures.number (c.site-site.ensures.pages ∙ ap (λ (g : Group). g.config.pages) (sym same)) (c.site-site.ensures.store ∙ ap (λ (g : Group). g.register) (sym same)) c.from.ensures (node_read c.self.inside.nodes.items c.from.result c.index_mut-node.result.now c.index_mut-node.ensures.value) c.in_ok-answer.ensures.after same

pub returns-clause-answer : goal.returns-clause-answer
returns-clause-answer g c =
    let inside = c.self.inside in
    let group : Group = group_of inside.config inside.nodes.items inside.links.items inside.register inside.tokens.items in
    let same : group ≡ c.args.self.now.group = ap (λ (v : GroupView). v.group) c.self.view_is in
    let within : c.args.n < length (replicas_of c.self.inside.nodes.items) = omega (arith, count_is c.self.inside.nodes.items, c.self.invariant.each, c.requires.node, ap (λ (g : Group). length g.config.modes) same) in
    told (λ h r. set_part h r c.args.pairs.now) (set_free c.args.pairs.now) group c.args.self.now.group c.args.n c.from.result c.site-site.result c.index_mut-node.result.now.replica c.in_ok-answer.answer within
    c.site-site.ensures.number (c.site-site.ensures.pages ∙ ap (λ (g : Group). g.config.pages) (sym same)) (c.site-site.ensures.store ∙ ap (λ (g : Group). g.register) (sym same)) c.from.ensures (node_read c.self.inside.nodes.items c.from.result c.index_mut-node.result.now c.index_mut-node.ensures.value) c.in_ok-answer.ensures.answer same

pub returns-clause-writes : goal.returns-clause-writes
returns-clause-writes g c =
    let inside = c.self.inside in
    let group : Group = group_of inside.config inside.nodes.items inside.links.items inside.register inside.tokens.items in
    let same : group ≡ c.args.self.now.group = ap (λ (v : GroupView). v.group) c.self.view_is in
    let within : c.args.n < length (replicas_of c.self.inside.nodes.items) = omega (arith, count_is c.self.inside.nodes.items, c.self.invariant.each, c.requires.node, ap (λ (g : Group). length g.config.modes) same) in
    wrote (λ h r. set_part h r c.args.pairs.now) (set_free c.args.pairs.now) group c.args.self.now.group c.args.n c.from.result c.site-site.result c.index_mut-node.result.now.replica within
    c.site-site.ensures.number (c.site-site.ensures.pages ∙ ap (λ (g : Group). g.config.pages) (sym same)) (c.site-site.ensures.store ∙ ap (λ (g : Group). g.register) (sym same)) c.from.ensures (node_read c.self.inside.nodes.items c.from.result c.index_mut-node.result.now c.index_mut-node.ensures.value) c.in_ok-answer.ensures.writes same

pub set-requires-clause-pages : goal.set-requires-clause-pages
set-requires-clause-pages g c =
    let inside = c.self.inside in
    let within : c.from.result < length inside.nodes.items = omega (arith, c.self.invariant.each, c.requires.node, c.from.ensures, ap (λ (v : GroupView). length v.group.config.modes) c.self.view_is) in
    c.site-site.ensures.pages ∙ ap (λ (v : GroupView). v.group.config.pages) (sym c.self.view_is) ∙ sym (pages_at inside.config inside.nodes.items inside.links.items inside.register (length inside.tokens.items) c.self.invariant c.from.result c.index_mut-node.result.now within c.index_mut-node.ensures.value)

pub invariant_of-self : goal.invariant_of-self
invariant_of-self g c =
    let inside = c.self.inside in
    let within : c.from.result < length inside.nodes.items = omega (arith, c.self.invariant.each, c.requires.node, c.from.ensures, ap (λ (v : GroupView). length v.group.config.modes) c.self.view_is) in
    group_with inside.config inside.nodes.items inside.links.items inside.register (length inside.tokens.items) c.self.invariant c.from.result c.index_mut-node.result.now within c.index_mut-node.ensures.value c.set.new.self c.set.ensures.pages

pub invariant_of-self-2 : goal.invariant_of-self-2
invariant_of-self-2 g c =
    let inside = c.self.inside in
    let within : c.from.result < length inside.nodes.items = omega (arith, c.self.invariant.each, c.requires.node, c.from.ensures, ap (λ (v : GroupView). length v.group.config.modes) c.self.view_is) in
    group_with inside.config inside.nodes.items inside.links.items inside.register (length inside.tokens.items) c.self.invariant c.from.result c.index_mut-node.result.now within c.index_mut-node.ensures.value c.set.new.self c.set.ensures.pages
