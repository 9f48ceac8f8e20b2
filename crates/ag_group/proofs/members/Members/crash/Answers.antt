use Rattle.std.proofs.Common.{◌≡◌, ◌<◌, length, sym, ap, ◌∙◌, arith}
use Rattle.ag_rules.specs.Group.{Group}
use Rattle.ag_group.specs.Seen.{GroupView, group_of, replicas_of}
use Rattle.ag_group.proofs.Nodes.{count_is, node_read, with_node, group_with}
use Rattle.ag_group.proofs.Lifts.{lifted, crash_free, crash_quiet, wrote, told}
use Rattle.ag_group.proofs.members.Members.crash.Goals as goal
use Rattle.ag_rules.specs.CrashEvent.{crash_part}

pub returns-clause-after : goal.returns-clause-after
returns-clause-after g c =
    let inside = c.self.inside in
    let group : Group = group_of inside.config inside.nodes.items inside.links.items inside.register inside.tokens.items in
    let same : group ≡ c.args.self.now.group = ap (λ (v : GroupView). v.group) c.self.view_is in
    let within : c.args.n < length (replicas_of c.self.inside.nodes.items) = omega (arith, count_is c.self.inside.nodes.items, c.self.invariant.each, c.requires.node, ap (λ (g : Group). length g.config.modes) same) in
    with_node inside.config inside.nodes.items inside.links.items inside.register inside.tokens.items c.from.result c.crash.new.self
    ∙ lifted crash_part crash_free crash_quiet group c.args.self.now.group c.args.n c.from.result c.site-site.result c.index_mut-node.result.now.replica c.crash.new.self.replica within
    c.site-site.ensures.number (c.site-site.ensures.pages ∙ ap (λ (g : Group). g.config.pages) (sym same)) (c.site-site.ensures.store ∙ ap (λ (g : Group). g.register) (sym same)) c.from.ensures (node_read c.self.inside.nodes.items c.from.result c.index_mut-node.result.now c.index_mut-node.ensures.value) c.crash.ensures.after same

pub returns-clause-writes : goal.returns-clause-writes
returns-clause-writes g c =
    let inside = c.self.inside in
    let group : Group = group_of inside.config inside.nodes.items inside.links.items inside.register inside.tokens.items in
    let same : group ≡ c.args.self.now.group = ap (λ (v : GroupView). v.group) c.self.view_is in
    let within : c.args.n < length (replicas_of c.self.inside.nodes.items) = omega (arith, count_is c.self.inside.nodes.items, c.self.invariant.each, c.requires.node, ap (λ (g : Group). length g.config.modes) same) in
    wrote crash_part crash_free group c.args.self.now.group c.args.n c.from.result c.site-site.result c.index_mut-node.result.now.replica within
    c.site-site.ensures.number (c.site-site.ensures.pages ∙ ap (λ (g : Group). g.config.pages) (sym same)) (c.site-site.ensures.store ∙ ap (λ (g : Group). g.register) (sym same)) c.from.ensures (node_read c.self.inside.nodes.items c.from.result c.index_mut-node.result.now c.index_mut-node.ensures.value) c.crash.ensures.writes same

pub invariant_of-self : goal.invariant_of-self
invariant_of-self g c =
    let inside = c.self.inside in
    let within : c.from.result < length inside.nodes.items = omega (arith, c.self.invariant.each, c.requires.node, c.from.ensures, ap (λ (v : GroupView). length v.group.config.modes) c.self.view_is) in
    group_with inside.config inside.nodes.items inside.links.items inside.register (length inside.tokens.items) c.self.invariant c.from.result c.index_mut-node.result.now within c.index_mut-node.ensures.value c.crash.new.self c.crash.ensures.pages

pub returns-clause-answer : goal.returns-clause-answer
returns-clause-answer g c =
    let inside = c.self.inside in
    let group : Group = group_of inside.config inside.nodes.items inside.links.items inside.register inside.tokens.items in
    let same : group ≡ c.args.self.now.group = ap (λ (v : GroupView). v.group) c.self.view_is in
    let within : c.args.n < length (replicas_of c.self.inside.nodes.items) = omega (arith, count_is c.self.inside.nodes.items, c.self.invariant.each, c.requires.node, ap (λ (g : Group). length g.config.modes) same) in
    told crash_part crash_free group c.args.self.now.group c.args.n c.from.result c.site-site.result c.index_mut-node.result.now.replica c.crash.result within
    c.site-site.ensures.number (c.site-site.ensures.pages ∙ ap (λ (g : Group). g.config.pages) (sym same)) (c.site-site.ensures.store ∙ ap (λ (g : Group). g.register) (sym same)) c.from.ensures (node_read c.self.inside.nodes.items c.from.result c.index_mut-node.result.now c.index_mut-node.ensures.value) c.crash.ensures.answer same
