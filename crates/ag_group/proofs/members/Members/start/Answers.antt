use Rattle.std.proofs.Common.{◌≡◌, ◌<◌, length, sym, ap, ◌∙◌, arith}
use Rattle.std.specs.Prelude.{Err}
use Rattle.ag_model.specs.declared.config.Register.{Register}
use Rattle.ag_rules.specs.Group.{Group, replica}
use Rattle.ag_rules.specs.Plan.{here}
use Rattle.ag_rules.specs.StartEvent.{start_part}
use Rattle.ag_group.specs.Seen.{GroupView, group_of, replicas_of}
use Rattle.ag_group.proofs.Nodes.{count_is, node_read, with_node, counted, node_lawful, pages_at, group_with}
use Rattle.ag_group.proofs.Lifts.{lifted_among, told_among, start_quiet}
use Rattle.ag_group.proofs.Cuts.{cut_doing, cut_quiet, cut_answer, cut_after}
use Rattle.ag_group.proofs.members.Members.start.Goals as goal

pub start-requires-clause-term : goal.start-requires-clause-term
start-requires-clause-term g c = ap (λ (x : Register). x.term) c.site-site.ensures.store ∙ ap (λ (v : GroupView). v.group.register.term) (sym c.self.view_is) ∙ c.self.invariant.term

pub returns-clause-answer : goal.returns-clause-answer
returns-clause-answer g c =
    let inside = c.self.inside in
    let group : Group = group_of inside.config inside.nodes.items inside.links.items inside.register inside.tokens.items in
    let same : group ≡ c.args.self.now.group = ap (λ (v : GroupView). v.group) c.self.view_is in
    let within : c.args.n < length (replicas_of c.self.inside.nodes.items) = omega (arith, count_is c.self.inside.nodes.items, c.self.invariant.each, c.requires.node, ap (λ (g : Group). length g.config.modes) same) in
    told_among (cut_doing c.args.suffix.now start_part) group c.args.self.now.group c.args.n c.from.result c.site-site.result c.as_slice.result.now c.index_mut-node.result.now.replica c.in-Ok.answer within
    c.site-site.ensures.number (c.site-site.ensures.pages ∙ ap (λ (g : Group). g.config.pages) (sym same)) (c.site-site.ensures.store ∙ ap (λ (g : Group). g.register) (sym same)) c.as_slice.ensures c.from.ensures (node_read c.self.inside.nodes.items c.from.result c.index_mut-node.result.now c.index_mut-node.ensures.value) c.in-Ok.ensures.answer same
    ∙ sym (cut_answer c.args.suffix.now c.args.self.now.group c.args.n (start_part (here c.args.self.now.group c.args.n) (replica c.args.self.now.group c.args.n)))

pub returns-clause-after : goal.returns-clause-after
returns-clause-after g c =
    let inside = c.self.inside in
    let group : Group = group_of inside.config inside.nodes.items inside.links.items inside.register inside.tokens.items in
    let same : group ≡ c.args.self.now.group = ap (λ (v : GroupView). v.group) c.self.view_is in
    let within : c.args.n < length (replicas_of c.self.inside.nodes.items) = omega (arith, count_is c.self.inside.nodes.items, c.self.invariant.each, c.requires.node, ap (λ (g : Group). length g.config.modes) same) in
    with_node inside.config inside.nodes.items inside.links.items inside.register inside.tokens.items c.from.result c.start.new.self
    ∙ lifted_among (cut_doing c.args.suffix.now start_part) (cut_quiet c.args.suffix.now start_part start_quiet) group c.args.self.now.group c.args.n c.from.result c.site-site.result c.as_slice.result.now c.index_mut-node.result.now.replica c.start.new.self.replica within
    c.site-site.ensures.number (c.site-site.ensures.pages ∙ ap (λ (g : Group). g.config.pages) (sym same)) (c.site-site.ensures.store ∙ ap (λ (g : Group). g.register) (sym same)) c.as_slice.ensures c.from.ensures (node_read c.self.inside.nodes.items c.from.result c.index_mut-node.result.now c.index_mut-node.ensures.value) c.in-Ok.ensures.after same
    ∙ sym (cut_after c.args.suffix.now c.args.self.now.group c.args.n (start_part (here c.args.self.now.group c.args.n) (replica c.args.self.now.group c.args.n)))

pub returns-in-Err-clause-fault : goal.returns-in-Err-clause-fault
returns-in-Err-clause-fault g c =
    let inside = c.self.inside in
    let within : c.args.n < length (replicas_of inside.nodes.items) = omega (arith, count_is inside.nodes.items, c.self.invariant.each, c.requires.node, ap (λ (v : GroupView). length v.group.config.modes) c.self.view_is) in
    counted c.args.self.now.faults inside.nodes.items c.args.n c.from.result c.index_mut-node.result.now c.start.new.self c.in-Err.e c.of_node.result within c.from.ensures c.index_mut-node.ensures.value (ap (λ (v : GroupView). v.faults) c.self.view_is) c.of_node.ensures (λ is. c.in-Err.ensures.fault (ap (λ e. Err e) is))

pub returns-in-Err-clause-lawful : goal.returns-in-Err-clause-lawful
returns-in-Err-clause-lawful g c k names = node_lawful c.args.n c.in-Err.e k (sym c.of_node.ensures ∙ names)

pub start-requires-clause-pages : goal.start-requires-clause-pages
start-requires-clause-pages g c =
    let inside = c.self.inside in
    let within : c.from.result < length inside.nodes.items = omega (arith, c.self.invariant.each, c.requires.node, c.from.ensures, ap (λ (v : GroupView). length v.group.config.modes) c.self.view_is) in
    c.site-site.ensures.pages ∙ ap (λ (v : GroupView). v.group.config.pages) (sym c.self.view_is) ∙ sym (pages_at inside.config inside.nodes.items inside.links.items inside.register (length inside.tokens.items) c.self.invariant c.from.result c.index_mut-node.result.now within c.index_mut-node.ensures.value)

pub invariant_of-self : goal.invariant_of-self
invariant_of-self g c =
    let inside = c.self.inside in
    let within : c.from.result < length inside.nodes.items = omega (arith, c.self.invariant.each, c.requires.node, c.from.ensures, ap (λ (v : GroupView). length v.group.config.modes) c.self.view_is) in
    group_with inside.config inside.nodes.items inside.links.items inside.register (length inside.tokens.items) c.self.invariant c.from.result c.index_mut-node.result.now within c.index_mut-node.ensures.value c.start.new.self c.start.ensures.pages

pub invariant_of-self-2 : goal.invariant_of-self-2
invariant_of-self-2 g c =
    let inside = c.self.inside in
    let within : c.from.result < length inside.nodes.items = omega (arith, c.self.invariant.each, c.requires.node, c.from.ensures, ap (λ (v : GroupView). length v.group.config.modes) c.self.view_is) in
    group_with inside.config inside.nodes.items inside.links.items inside.register (length inside.tokens.items) c.self.invariant c.from.result c.index_mut-node.result.now within c.index_mut-node.ensures.value c.start.new.self c.start.ensures.pages
