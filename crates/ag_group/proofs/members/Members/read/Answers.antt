use Rattle.std.proofs.Common.{◌≡◌, ◌<◌, ℕ, [], length, get_or, set, sym, ap, ◌∙◌, subst, arith}
use Rattle.std.specs.Prelude.{Err, None}
use Rattle.std.proofs.lemmas.List.{get_or_read, length-set}
use Rattle.ag_model.specs.declared.config.Token.{Token}
use Rattle.ag_rules.specs.Group.{Group, replica}
use Rattle.ag_rules.specs.Plan.{here}
use Rattle.ag_rules.specs.Checks.{token_or_none}
use Rattle.ag_rules.specs.Next.{at_session, token}
use Rattle.ag_rules.specs.ReadEvent.{read_part}
use Rattle.ag_group.specs.Groups.{IsGroup}
use Rattle.ag_group.specs.Seen.{GroupView, group_of, replicas_of}
use Rattle.ag_group.proofs.Nodes.{count_is, node_read, with_node, counted, node_lawful, pages_at, group_with}
use Rattle.ag_group.proofs.Lifts.{session_lifted, told, read_free, read_quiet, wrote}
use Rattle.ag_group.proofs.members.Members.read.Goals as goal

pub returns-clause-answer : goal.returns-clause-answer
returns-clause-answer g c =
    let inside = c.self.inside in
    let group : Group = group_of inside.config inside.nodes.items inside.links.items inside.register inside.tokens.items in
    let same : group ≡ c.args.self.now.group = ap (λ (v : GroupView). v.group) c.self.view_is in
    let seen : Token = c.token_or_none-token.result in
    let within : c.args.n < length (replicas_of c.self.inside.nodes.items) = omega (arith, count_is c.self.inside.nodes.items, c.self.invariant.each, c.requires.node, ap (λ (g : Group). length g.config.modes) same) in
    let place : c.args.s < length c.self.inside.tokens.items = omega (arith, c.self.invariant.tokens, c.requires.session) in
    let at_s : c.index-old.result.now ≡ get_or group.tokens c.args.s None = get_or_read group.tokens c.args.s c.index-old.result.now place (c.index-old.ensures ∙ ap (λ (k : ℕ). get_or group.tokens k c.index-old.result.now) c.from.ensures) None in
    let seen_is : seen ≡ token group c.args.s = c.token_or_none-token.ensures ∙ ap token_or_none at_s in
    told (λ h r. read_part h r seen c.args.key) (read_free seen c.args.key) group c.args.self.now.group c.args.n c.from-2.result c.site-site.result c.index_mut-node.result.now.replica c.in-Ok.answer within
    c.site-site.ensures.number (c.site-site.ensures.pages ∙ ap (λ (g : Group). g.config.pages) (sym same)) (c.site-site.ensures.store ∙ ap (λ (g : Group). g.register) (sym same)) c.from-2.ensures (node_read c.self.inside.nodes.items c.from-2.result c.index_mut-node.result.now c.index_mut-node.ensures.value) c.in-Ok.ensures.answer same
    ∙ (λ i. (read_part (here c.args.self.now.group c.args.n) (replica c.args.self.now.group c.args.n) ((seen_is ∙ ap (λ (g : Group). token g c.args.s) same) i) c.args.key).answer)

pub returns-clause-after : goal.returns-clause-after
returns-clause-after g c =
    let inside = c.self.inside in
    let group : Group = group_of inside.config inside.nodes.items inside.links.items inside.register inside.tokens.items in
    let same : group ≡ c.args.self.now.group = ap (λ (v : GroupView). v.group) c.self.view_is in
    let seen : Token = c.token_or_none-token.result in
    let within : c.args.n < length (replicas_of c.self.inside.nodes.items) = omega (arith, count_is c.self.inside.nodes.items, c.self.invariant.each, c.requires.node, ap (λ (g : Group). length g.config.modes) same) in
    let place : c.args.s < length c.self.inside.tokens.items = omega (arith, c.self.invariant.tokens, c.requires.session) in
    let at_s : c.index-old.result.now ≡ get_or group.tokens c.args.s None = get_or_read group.tokens c.args.s c.index-old.result.now place (c.index-old.ensures ∙ ap (λ (k : ℕ). get_or group.tokens k c.index-old.result.now) c.from.ensures) None in
    let seen_is : seen ≡ token group c.args.s = c.token_or_none-token.ensures ∙ ap token_or_none at_s in
    with_node inside.config inside.nodes.items inside.links.items inside.register (set inside.tokens.items c.from-3.result c.token_after.result) c.from-2.result c.read.new.self
    ∙ session_lifted (λ h r. read_part h r seen c.args.key) (read_free seen c.args.key) (read_quiet seen c.args.key) group c.args.self.now.group c.args.n c.from-2.result c.args.s c.from-3.result c.site-site.result c.index_mut-node.result.now.replica c.read.new.self.replica c.index-old.result.now c.token_after.result c.in-Ok.answer c.term-term.result within
    c.site-site.ensures.number (c.site-site.ensures.pages ∙ ap (λ (g : Group). g.config.pages) (sym same)) (c.site-site.ensures.store ∙ ap (λ (g : Group). g.register) (sym same)) c.from-2.ensures (node_read c.self.inside.nodes.items c.from-2.result c.index_mut-node.result.now c.index_mut-node.ensures.value)
    c.in-Ok.ensures.after c.in-Ok.ensures.answer at_s c.term-term.ensures c.token_after.ensures c.from-3.ensures same
    ∙ (λ i. (at_session c.args.self.now.group c.args.n c.args.s (read_part (here c.args.self.now.group c.args.n) (replica c.args.self.now.group c.args.n) ((seen_is ∙ ap (λ (g : Group). token g c.args.s) same) i) c.args.key)).after)

pub returns-clause-writes : goal.returns-clause-writes
returns-clause-writes g c =
    let inside = c.self.inside in
    let group : Group = group_of inside.config inside.nodes.items inside.links.items inside.register inside.tokens.items in
    let same : group ≡ c.args.self.now.group = ap (λ (v : GroupView). v.group) c.self.view_is in
    let seen : Token = c.token_or_none-token.result in
    let within : c.args.n < length (replicas_of c.self.inside.nodes.items) = omega (arith, count_is c.self.inside.nodes.items, c.self.invariant.each, c.requires.node, ap (λ (g : Group). length g.config.modes) same) in
    let place : c.args.s < length c.self.inside.tokens.items = omega (arith, c.self.invariant.tokens, c.requires.session) in
    let at_s : c.index-old.result.now ≡ get_or group.tokens c.args.s None = get_or_read group.tokens c.args.s c.index-old.result.now place (c.index-old.ensures ∙ ap (λ (k : ℕ). get_or group.tokens k c.index-old.result.now) c.from.ensures) None in
    let seen_is : seen ≡ token group c.args.s = c.token_or_none-token.ensures ∙ ap token_or_none at_s in
    let none : (read_part (here c.args.self.now.group c.args.n) (replica c.args.self.now.group c.args.n) seen c.args.key).writes ≡ [] = wrote (λ h r. read_part h r seen c.args.key) (read_free seen c.args.key) group c.args.self.now.group c.args.n c.from-2.result c.site-site.result c.index_mut-node.result.now.replica within
    c.site-site.ensures.number (c.site-site.ensures.pages ∙ ap (λ (g : Group). g.config.pages) (sym same)) (c.site-site.ensures.store ∙ ap (λ (g : Group). g.register) (sym same)) c.from-2.ensures (node_read c.self.inside.nodes.items c.from-2.result c.index_mut-node.result.now c.index_mut-node.ensures.value) c.in-Ok.ensures.writes same in
    subst (λ (t : Token). (read_part (here c.args.self.now.group c.args.n) (replica c.args.self.now.group c.args.n) t c.args.key).writes ≡ []) (seen_is ∙ ap (λ (g : Group). token g c.args.s) same) none

pub read-requires : goal.read-requires
read-requires g c =
    let inside = c.self.inside in
    let within : c.from-2.result < length inside.nodes.items = omega (arith, c.self.invariant.each, c.requires.node, c.from-2.ensures, ap (λ (v : GroupView). length v.group.config.modes) c.self.view_is) in
    record { pages = c.site-site.ensures.pages ∙ ap (λ (v : GroupView). v.group.config.pages) (sym c.self.view_is) ∙ sym (pages_at inside.config inside.nodes.items inside.links.items inside.register (length inside.tokens.items) c.self.invariant c.from-2.result c.index_mut-node.result.now within c.index_mut-node.ensures.value) }

pub returns-in-Err-clause-fault : goal.returns-in-Err-clause-fault
returns-in-Err-clause-fault g c =
    let inside = c.self.inside in
    let within : c.args.n < length (replicas_of inside.nodes.items) = omega (arith, count_is inside.nodes.items, c.self.invariant.each, c.requires.node, ap (λ (v : GroupView). length v.group.config.modes) c.self.view_is) in
    counted c.args.self.now.faults inside.nodes.items c.args.n c.from-2.result c.index_mut-node.result.now c.read.new.self c.in-Err.e c.of_node.result within c.from-2.ensures c.index_mut-node.ensures.value (ap (λ (v : GroupView). v.faults) c.self.view_is) c.of_node.ensures (λ is. c.in-Err.ensures.fault (ap (λ e. Err e) is))

pub returns-in-Err-clause-lawful : goal.returns-in-Err-clause-lawful
returns-in-Err-clause-lawful g c k names = node_lawful c.args.n c.in-Err.e k (sym c.of_node.ensures ∙ names)

pub invariant_of-self : goal.invariant_of-self
invariant_of-self g c =
    let inside = c.self.inside in
    let within : c.from-2.result < length inside.nodes.items = omega (arith, c.self.invariant.each, c.requires.node, c.from-2.ensures, ap (λ (v : GroupView). length v.group.config.modes) c.self.view_is) in
    group_with inside.config inside.nodes.items inside.links.items inside.register (length inside.tokens.items) c.self.invariant c.from-2.result c.index_mut-node.result.now within c.index_mut-node.ensures.value c.read.new.self c.read.ensures.pages

pub invariant_of-self-2 : goal.invariant_of-self-2
invariant_of-self-2 g c =
    let inside = c.self.inside in
    let within : c.from-2.result < length inside.nodes.items = omega (arith, c.self.invariant.each, c.requires.node, c.from-2.ensures, ap (λ (v : GroupView). length v.group.config.modes) c.self.view_is) in
    subst (λ (k : ℕ). IsGroup inside.config (set inside.nodes.items c.from-2.result c.read.new.self) inside.links.items inside.register k) (sym (length-set inside.tokens.items c.from-3.result c.token_after.result))
    (group_with inside.config inside.nodes.items inside.links.items inside.register (length inside.tokens.items) c.self.invariant c.from-2.result c.index_mut-node.result.now within c.index_mut-node.ensures.value c.read.new.self c.read.ensures.pages)
