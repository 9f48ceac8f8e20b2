use Rattle.std.proofs.Common.{◌≡◌, ◌<◌, length, sym, ap, ◌∙◌, arith}
use Rattle.ag_rules.specs.Group.{Group}
use Rattle.ag_rules.specs.SendEvent.{send_part}
use Rattle.ag_group.specs.Seen.{GroupView, group_of, replicas_of}
use Rattle.ag_group.proofs.Nodes.{count_is, node_read, with_node, group_with}
use Rattle.ag_group.proofs.Lifts.{stepped, told, sent, send_free}
use Rattle.ag_node.specs.Out.{posting_of}
use Rattle.ag_node.specs.Sites.{here_at}
use Rattle.ag_group.proofs.Replies.{room_by_out, send_full}
use Rattle.ag_group.proofs.members.Members.send_from.Goals as goal

pub returns-clause-answer : goal.returns-clause-answer
returns-clause-answer g c =
    let inside = c.self.inside in
    let group : Group = group_of inside.config inside.nodes.items inside.links.items inside.register inside.tokens.items in
    let same : group ≡ c.args.self.now.group = ap (λ (v : GroupView). v.group) c.self.view_is in
    let within : c.args.n < length (replicas_of c.self.inside.nodes.items) = omega (arith, count_is c.self.inside.nodes.items, c.self.invariant.each, c.requires, ap (λ (g : Group). length g.config.modes) same) in
    told (λ h r. send_part h r c.args.m c.args.full) (send_free c.args.m c.args.full) group c.args.self.now.group c.args.n c.from.result c.site-site.result c.index_mut-node.result.now.replica c.in_ok-sent.sent.0 within
    c.site-site.ensures.number (c.site-site.ensures.pages ∙ ap (λ (g : Group). g.config.pages) (sym same)) (c.site-site.ensures.store ∙ ap (λ (g : Group). g.register) (sym same)) c.from.ensures (node_read c.self.inside.nodes.items c.from.result c.index_mut-node.result.now c.index_mut-node.ensures.value) c.in_ok-sent.ensures.answer same

pub returns-clause-out : goal.returns-clause-out
returns-clause-out g c =
    let inside = c.self.inside in
    let group : Group = group_of inside.config inside.nodes.items inside.links.items inside.register inside.tokens.items in
    let same : group ≡ c.args.self.now.group = ap (λ (v : GroupView). v.group) c.self.view_is in
    let within : c.args.n < length (replicas_of c.self.inside.nodes.items) = omega (arith, count_is c.self.inside.nodes.items, c.self.invariant.each, c.requires, ap (λ (g : Group). length g.config.modes) same) in
    sent (λ h r. send_part h r c.args.m c.args.full) (send_free c.args.m c.args.full) group c.args.self.now.group c.args.n c.from.result c.site-site.result c.index_mut-node.result.now.replica (posting_of c.args.m c.in_ok-sent.sent.1) within
    c.site-site.ensures.number (c.site-site.ensures.pages ∙ ap (λ (g : Group). g.config.pages) (sym same)) (c.site-site.ensures.store ∙ ap (λ (g : Group). g.register) (sym same)) c.from.ensures (node_read c.self.inside.nodes.items c.from.result c.index_mut-node.result.now c.index_mut-node.ensures.value) c.in_ok-sent.ensures.out same

pub returns-clause-after : goal.returns-clause-after
returns-clause-after g c =
    let inside = c.self.inside in
    let group : Group = group_of inside.config inside.nodes.items inside.links.items inside.register inside.tokens.items in
    let same : group ≡ c.args.self.now.group = ap (λ (v : GroupView). v.group) c.self.view_is in
    let within : c.args.n < length (replicas_of c.self.inside.nodes.items) = omega (arith, count_is c.self.inside.nodes.items, c.self.invariant.each, c.requires, ap (λ (g : Group). length g.config.modes) same) in
    with_node inside.config inside.nodes.items inside.links.items inside.register inside.tokens.items c.from.result c.send.new.self
    ∙ stepped (λ h r. send_part h r c.args.m c.args.full) (send_free c.args.m c.args.full) group c.args.self.now.group c.args.n c.from.result c.site-site.result c.index_mut-node.result.now.replica c.send.new.self.replica within
    c.site-site.ensures.number (c.site-site.ensures.pages ∙ ap (λ (g : Group). g.config.pages) (sym same)) (c.site-site.ensures.store ∙ ap (λ (g : Group). g.register) (sym same)) c.from.ensures (node_read c.self.inside.nodes.items c.from.result c.index_mut-node.result.now c.index_mut-node.ensures.value) c.in_ok-sent.ensures.after same

pub returns-clause-room : goal.returns-clause-room
returns-clause-room g c =
    let h = here_at c.site-site.result in
    let r = c.index_mut-node.result.now.replica in
    room_by_out c.args.m c.in_ok-sent.sent.1 c.args.full (send_part h r c.args.m c.args.full).out c.in_ok-sent.ensures.out (λ e. ap (λ b. (send_part h r c.args.m b).out) e ∙ send_full h r c.args.m)

pub invariant_of-self : goal.invariant_of-self
invariant_of-self g c =
    let inside = c.self.inside in
    let within : c.from.result < length inside.nodes.items = omega (arith, c.self.invariant.each, c.requires, c.from.ensures, ap (λ (v : GroupView). length v.group.config.modes) c.self.view_is) in
    group_with inside.config inside.nodes.items inside.links.items inside.register (length inside.tokens.items) c.self.invariant c.from.result c.index_mut-node.result.now within c.index_mut-node.ensures.value c.send.new.self c.send.ensures.pages
