use Rattle.std.proofs.Common.{◌≡◌, ◌<◌, length, sym, ap, ◌∙◌, arith}
use Rattle.std.specs.Prelude.{Err}
use Rattle.ag_rules.specs.Group.{Group}
use Rattle.ag_rules.specs.RedoEvent.{redo_part}
use Rattle.ag_group.specs.Seen.{GroupView, group_of, replicas_of}
use Rattle.ag_group.proofs.Nodes.{count_is, node_read, with_node, counted, node_lawful, pages_at, group_with}
use Rattle.ag_group.proofs.Lifts.{lifted, told, wrote, redo_free, redo_quiet}
use Rattle.ag_group.proofs.members.Members.redo.Goals as goal

pub returns-clause-answer : goal.returns-clause-answer
returns-clause-answer g c =
    let inside = c.self.inside in
    let group : Group = group_of inside.config inside.nodes.items inside.links.items inside.register inside.tokens.items in
    let same : group ≡ c.args.self.now.group = ap (λ (v : GroupView). v.group) c.self.view_is in
    let within : c.args.n < length (replicas_of c.self.inside.nodes.items) = omega (arith, count_is c.self.inside.nodes.items, c.self.invariant.each, c.requires.node, ap (λ (g : Group). length g.config.modes) same) in
    told redo_part redo_free group c.args.self.now.group c.args.n c.from.result c.site-site.result c.index_mut-node.result.now.replica c.in-Ok.answer within
    c.site-site.ensures.number (c.site-site.ensures.pages ∙ ap (λ (g : Group). g.config.pages) (sym same)) (c.site-site.ensures.store ∙ ap (λ (g : Group). g.register) (sym same)) c.from.ensures (node_read c.self.inside.nodes.items c.from.result c.index_mut-node.result.now c.index_mut-node.ensures.value) c.in-Ok.ensures.answer same

pub returns-clause-after : goal.returns-clause-after
returns-clause-after g c =
    let inside = c.self.inside in
    let group : Group = group_of inside.config inside.nodes.items inside.links.items inside.register inside.tokens.items in
    let same : group ≡ c.args.self.now.group = ap (λ (v : GroupView). v.group) c.self.view_is in
    let within : c.args.n < length (replicas_of c.self.inside.nodes.items) = omega (arith, count_is c.self.inside.nodes.items, c.self.invariant.each, c.requires.node, ap (λ (g : Group). length g.config.modes) same) in
    with_node inside.config inside.nodes.items inside.links.items inside.register inside.tokens.items c.from.result c.redo.new.self
    ∙ lifted redo_part redo_free redo_quiet group c.args.self.now.group c.args.n c.from.result c.site-site.result c.index_mut-node.result.now.replica c.redo.new.self.replica within
    c.site-site.ensures.number (c.site-site.ensures.pages ∙ ap (λ (g : Group). g.config.pages) (sym same)) (c.site-site.ensures.store ∙ ap (λ (g : Group). g.register) (sym same)) c.from.ensures (node_read c.self.inside.nodes.items c.from.result c.index_mut-node.result.now c.index_mut-node.ensures.value) c.in-Ok.ensures.after same

pub returns-clause-writes : goal.returns-clause-writes
returns-clause-writes g c =
    let inside = c.self.inside in
    let group : Group = group_of inside.config inside.nodes.items inside.links.items inside.register inside.tokens.items in
    let same : group ≡ c.args.self.now.group = ap (λ (v : GroupView). v.group) c.self.view_is in
    let within : c.args.n < length (replicas_of c.self.inside.nodes.items) = omega (arith, count_is c.self.inside.nodes.items, c.self.invariant.each, c.requires.node, ap (λ (g : Group). length g.config.modes) same) in
    wrote redo_part redo_free group c.args.self.now.group c.args.n c.from.result c.site-site.result c.index_mut-node.result.now.replica within
    c.site-site.ensures.number (c.site-site.ensures.pages ∙ ap (λ (g : Group). g.config.pages) (sym same)) (c.site-site.ensures.store ∙ ap (λ (g : Group). g.register) (sym same)) c.from.ensures (node_read c.self.inside.nodes.items c.from.result c.index_mut-node.result.now c.index_mut-node.ensures.value) c.in-Ok.ensures.writes same

pub redo-requires : goal.redo-requires
redo-requires g c =
    let inside = c.self.inside in
    let within : c.from.result < length inside.nodes.items = omega (arith, c.self.invariant.each, c.requires.node, c.from.ensures, ap (λ (v : GroupView). length v.group.config.modes) c.self.view_is) in
    record { pages = c.site-site.ensures.pages ∙ ap (λ (v : GroupView). v.group.config.pages) (sym c.self.view_is) ∙ sym (pages_at inside.config inside.nodes.items inside.links.items inside.register (length inside.tokens.items) c.self.invariant c.from.result c.index_mut-node.result.now within c.index_mut-node.ensures.value) }

pub returns-in-Err-clause-fault : goal.returns-in-Err-clause-fault
returns-in-Err-clause-fault g c =
    let inside = c.self.inside in
    let within : c.args.n < length (replicas_of inside.nodes.items) = omega (arith, count_is inside.nodes.items, c.self.invariant.each, c.requires.node, ap (λ (v : GroupView). length v.group.config.modes) c.self.view_is) in
    counted c.args.self.now.faults inside.nodes.items c.args.n c.from.result c.index_mut-node.result.now c.redo.new.self c.in-Err.e c.of_node.result within c.from.ensures c.index_mut-node.ensures.value (ap (λ (v : GroupView). v.faults) c.self.view_is) c.of_node.ensures (λ is. c.in-Err.ensures.fault (ap (λ e. Err e) is))

pub returns-in-Err-clause-lawful : goal.returns-in-Err-clause-lawful
returns-in-Err-clause-lawful g c k names = node_lawful c.args.n c.in-Err.e k (sym c.of_node.ensures ∙ names)

pub invariant_of-self : goal.invariant_of-self
invariant_of-self g c =
    let inside = c.self.inside in
    let within : c.from.result < length inside.nodes.items = omega (arith, c.self.invariant.each, c.requires.node, c.from.ensures, ap (λ (v : GroupView). length v.group.config.modes) c.self.view_is) in
    group_with inside.config inside.nodes.items inside.links.items inside.register (length inside.tokens.items) c.self.invariant c.from.result c.index_mut-node.result.now within c.index_mut-node.ensures.value c.redo.new.self c.redo.ensures.pages

pub invariant_of-self-2 : goal.invariant_of-self-2
invariant_of-self-2 g c =
    let inside = c.self.inside in
    let within : c.from.result < length inside.nodes.items = omega (arith, c.self.invariant.each, c.requires.node, c.from.ensures, ap (λ (v : GroupView). length v.group.config.modes) c.self.view_is) in
    group_with inside.config inside.nodes.items inside.links.items inside.register (length inside.tokens.items) c.self.invariant c.from.result c.index_mut-node.result.now within c.index_mut-node.ensures.value c.redo.new.self c.redo.ensures.pages
