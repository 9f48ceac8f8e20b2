use Rattle.std.proofs.Common.{◌≡◌, ◌<◌, ◌-◌, ℕ, [], List, length, get_or, sym, ap, ◌∙◌, subst, arith}
use Rattle.std.specs.Prelude.{Err}
use Rattle.std.specs.Prelude.{slice_get, Option, IfSome}
use Rattle.std.proofs.lemmas.List.{get_or_read}
use Rattle.ag_model.specs.declared.message.Message.{Message}
use Rattle.ag_rules.specs.Group.{Group, link}
use Rattle.ag_rules.specs.Plan.{Part}
use Rattle.ag_rules.specs.DeliverEvent.{message_part, leaves}
use Rattle.ag_built.specs.Built.{IsBuiltMessage}
use Rattle.ag_node.specs.Out.{posting_of}
use Rattle.ag_node.specs.Sites.{here_at}
use Rattle.ag_group.proofs.Replies.{room_by_out, message_full}
use Rattle.ag_group.specs.Seen.{GroupView, group_of, replicas_of}
use Rattle.ag_group.proofs.Nodes.{count_is, node_read, with_node, counted, node_lawful, pages_at, group_with}
use Rattle.ag_group.proofs.LinkRows.{columns_at}
use Rattle.ag_group.proofs.Lifts.{Doing, stepped, told, sent, same_part, message_free}
use Rattle.ag_group.proofs.ProperLogs.{proper_at}
use Rattle.ag_group.proofs.Cuts.{cut_doing, cut_free, cut_out}
use Rattle.ag_node.specs.Suffixes.{cut_part}
use Rattle.ag_group.proofs.members.Members.arrives.Goals as goal

pub returns-clause-part : goal.returns-clause-part
returns-clause-part g c =
    let inside = c.self.inside in
    let group : Group = group_of inside.config inside.nodes.items inside.links.items inside.register inside.tokens.items in
    let same : group ≡ c.args.self.now.group = ap (λ (v : GroupView). v.group) c.self.view_is in
    let message : Message = c.in-Some.message in
    let built : IsBuiltMessage message = subst (λ (o : Option Message). IfSome o IsBuiltMessage) c.in-Some.is c.in_ok-message.ensures.built in
    let within : c.args.m < length (replicas_of c.self.inside.nodes.items) = omega (arith, count_is c.self.inside.nodes.items, c.self.invariant.each, c.requires.to, ap (λ (g : Group). length g.config.modes) same) in
    let row : c.args.n < length c.self.inside.links.items = omega (arith, c.self.invariant.rows, c.requires.from, ap (λ (g : Group). length g.config.modes) same) in
    let at_n : c.index-links.result.now ≡ get_or group.links c.args.n [] = get_or_read group.links c.args.n c.index-links.result.now row (c.index-links.ensures ∙ ap (λ (k : ℕ). get_or group.links k c.index-links.result.now) c.from.ensures) [] in
    let link_is : get_or c.index-links.result.now c.args.m [] ≡ link c.args.self.now.group c.args.n c.args.m = ap (λ (x : List (List Message)). get_or x c.args.m []) at_n ∙ ap (λ (g : Group). link g c.args.n c.args.m) same in
    let F : Doing = λ h r. message_part h c.args.n r c.args.full message in
    let free = cut_free c.args.suffix.now F (message_free c.args.n c.args.full message built.0) in (
      message,
      sym (ap (λ (x : List Message). slice_get x (c.args.number - 1)) link_is) ∙ sym c.in_ok-message.ensures.found ∙ c.in-Some.is,
      built,
      record {
        answered = told (cut_doing c.args.suffix.now F) free group c.args.self.now.group c.args.m c.from-2.result c.site-site.result c.index_mut-node.result.now.replica c.in-Ok.told.0 within
            c.site-site.ensures.number (c.site-site.ensures.pages ∙ ap (λ (g : Group). g.config.pages) (sym same)) (c.site-site.ensures.store ∙ ap (λ (g : Group). g.register) (sym same)) c.from-2.ensures (node_read c.self.inside.nodes.items c.from-2.result c.index_mut-node.result.now c.index_mut-node.ensures.value) c.in-Ok.ensures.answer same;
        replied = sent (cut_doing c.args.suffix.now F) free group c.args.self.now.group c.args.m c.from-2.result c.site-site.result c.index_mut-node.result.now.replica (posting_of c.args.n c.in-Ok.told.1) within
            c.site-site.ensures.number (c.site-site.ensures.pages ∙ ap (λ (g : Group). g.config.pages) (sym same)) (c.site-site.ensures.store ∙ ap (λ (g : Group). g.register) (sym same)) c.from-2.ensures (node_read c.self.inside.nodes.items c.from-2.result c.index_mut-node.result.now c.index_mut-node.ensures.value) c.in-Ok.ensures.out same;
        left = with_node inside.config inside.nodes.items inside.links.items inside.register inside.tokens.items c.from-2.result c.arrive.new.node
            ∙ stepped (cut_doing c.args.suffix.now F) free group c.args.self.now.group c.args.m c.from-2.result c.site-site.result c.index_mut-node.result.now.replica c.arrive.new.node.replica within
            c.site-site.ensures.number (c.site-site.ensures.pages ∙ ap (λ (g : Group). g.config.pages) (sym same)) (c.site-site.ensures.store ∙ ap (λ (g : Group). g.register) (sym same)) c.from-2.ensures (node_read c.self.inside.nodes.items c.from-2.result c.index_mut-node.result.now c.index_mut-node.ensures.value) c.in-Ok.ensures.after same;
      },
      c.in-Ok.ensures.leaves
          ∙ ap (λ (x : Part). leaves x.answer) (same_part F (message_free c.args.n c.args.full message built.0) group c.args.self.now.group c.args.m c.from-2.result c.site-site.result c.index_mut-node.result.now.replica within
          c.site-site.ensures.number (c.site-site.ensures.pages ∙ ap (λ (g : Group). g.config.pages) (sym same)) (c.site-site.ensures.store ∙ ap (λ (g : Group). g.register) (sym same)) c.from-2.ensures (node_read c.self.inside.nodes.items c.from-2.result c.index_mut-node.result.now c.index_mut-node.ensures.value) same),
    )

pub returns-clause-room : goal.returns-clause-room
returns-clause-room g c =
    let message : Message = c.in-Some.message in
    let built : IsBuiltMessage message = subst (λ (o : Option Message). IfSome o IsBuiltMessage) c.in-Some.is c.in_ok-message.ensures.built in
    let h = here_at c.site-site.result in
    let r = c.index_mut-node.result.now.replica in
    room_by_out c.args.n c.in-Ok.told.1 c.args.full (cut_part h.pages h.number c.args.suffix.now r (message_part h c.args.n r c.args.full message)).out c.in-Ok.ensures.out
    (λ e. cut_out c.args.suffix.now h.pages h.number r (message_part h c.args.n r c.args.full message) (ap (λ b. (message_part h c.args.n r b message).out) e ∙ message_full h c.args.n r message built.0))

pub returns-in-Err-clause-fault : goal.returns-in-Err-clause-fault
returns-in-Err-clause-fault g c =
    let inside = c.self.inside in
    let within : c.args.m < length (replicas_of inside.nodes.items) = omega (arith, count_is inside.nodes.items, c.self.invariant.each, c.requires.to, ap (λ (v : GroupView). length v.group.config.modes) c.self.view_is) in
    counted c.args.self.now.faults inside.nodes.items c.args.m c.from-2.result c.index_mut-node.result.now c.arrive.new.node c.in-Err.e c.of_node.result within c.from-2.ensures c.index_mut-node.ensures.value (ap (λ (v : GroupView). v.faults) c.self.view_is) c.of_node.ensures (λ is. c.in-Err.ensures.fault (ap (λ e. Err e) is))

pub returns-in-Err-clause-lawful : goal.returns-in-Err-clause-lawful
returns-in-Err-clause-lawful g c k names = node_lawful c.args.m c.in-Err.e k (sym c.of_node.ensures ∙ names)

pub arrive-requires-clause-pages : goal.arrive-requires-clause-pages
arrive-requires-clause-pages g c =
    let inside = c.self.inside in
    let within : c.from-2.result < length inside.nodes.items = omega (arith, c.self.invariant.each, c.requires.to, c.from-2.ensures, ap (λ (v : GroupView). length v.group.config.modes) c.self.view_is) in
    c.site-site.ensures.pages ∙ ap (λ (v : GroupView). v.group.config.pages) (sym c.self.view_is) ∙ sym (pages_at inside.config inside.nodes.items inside.links.items inside.register (length inside.tokens.items) c.self.invariant c.from-2.result c.index_mut-node.result.now within c.index_mut-node.ensures.value)

pub arrive-requires-clause-proper : goal.arrive-requires-clause-proper
arrive-requires-clause-proper g c =
    let inside = c.self.inside in
    let group : Group = group_of inside.config inside.nodes.items inside.links.items inside.register inside.tokens.items in
    let same : group ≡ c.args.self.now.group = ap (λ (v : GroupView). v.group) c.self.view_is in
    let message : Message = c.in-Some.message in
    let built : IsBuiltMessage message = subst (λ (o : Option Message). IfSome o IsBuiltMessage) c.in-Some.is c.in_ok-message.ensures.built in
    let within : c.args.m < length (replicas_of c.self.inside.nodes.items) = omega (arith, count_is c.self.inside.nodes.items, c.self.invariant.each, c.requires.to, ap (λ (g : Group). length g.config.modes) same) in
    let row : c.args.n < length c.self.inside.links.items = omega (arith, c.self.invariant.rows, c.requires.from, ap (λ (g : Group). length g.config.modes) same) in
    let at_n : c.index-links.result.now ≡ get_or group.links c.args.n [] = get_or_read group.links c.args.n c.index-links.result.now row (c.index-links.ensures ∙ ap (λ (k : ℕ). get_or group.links k c.index-links.result.now) c.from.ensures) [] in
    let link_is : get_or c.index-links.result.now c.args.m [] ≡ link c.args.self.now.group c.args.n c.args.m = ap (λ (x : List (List Message)). get_or x c.args.m []) at_n ∙ ap (λ (g : Group). link g c.args.n c.args.m) same in
    proper_at (λ h r. message_part h c.args.n r c.args.full message) (message_free c.args.n c.args.full message built.0) group c.args.self.now.group c.args.m c.from-2.result c.site-site.result c.index_mut-node.result.now.replica within
    c.site-site.ensures.number (c.site-site.ensures.pages ∙ ap (λ (g : Group). g.config.pages) (sym same)) (c.site-site.ensures.store ∙ ap (λ (g : Group). g.register) (sym same)) c.from-2.ensures (node_read c.self.inside.nodes.items c.from-2.result c.index_mut-node.result.now c.index_mut-node.ensures.value) same
    (c.requires.proper message (sym (ap (λ (x : List Message). slice_get x (c.args.number - 1)) link_is) ∙ sym c.in_ok-message.ensures.found ∙ c.in-Some.is))

pub message-requires-clause-within : goal.message-requires-clause-within
message-requires-clause-within g c =
    let inside = c.self.inside in
    let modes : length inside.config.modes ≡ length c.args.self.now.group.config.modes = ap (λ (v : GroupView). length v.group.config.modes) c.self.view_is in
    let within : c.from.result < length inside.links.items = omega (arith, c.self.invariant.rows, c.requires.from, c.from.ensures, modes) in
    let columns : length c.index-links.result.now ≡ length inside.config.modes = columns_at inside.config inside.nodes.items inside.links.items inside.register c.from.result c.index-links.result.now within c.index-links.ensures (length inside.tokens.items) c.self.invariant in
    omega (arith, columns, c.requires.to, modes)

pub invariant_of-self : goal.invariant_of-self
invariant_of-self g c =
    let inside = c.self.inside in
    let within : c.from-2.result < length inside.nodes.items = omega (arith, c.self.invariant.each, c.requires.to, c.from-2.ensures, ap (λ (v : GroupView). length v.group.config.modes) c.self.view_is) in
    group_with inside.config inside.nodes.items inside.links.items inside.register (length inside.tokens.items) c.self.invariant c.from-2.result c.index_mut-node.result.now within c.index_mut-node.ensures.value c.arrive.new.node c.arrive.ensures.pages

pub invariant_of-self-2 : goal.invariant_of-self-2
invariant_of-self-2 g c =
    let inside = c.self.inside in
    let within : c.from-2.result < length inside.nodes.items = omega (arith, c.self.invariant.each, c.requires.to, c.from-2.ensures, ap (λ (v : GroupView). length v.group.config.modes) c.self.view_is) in
    group_with inside.config inside.nodes.items inside.links.items inside.register (length inside.tokens.items) c.self.invariant c.from-2.result c.index_mut-node.result.now within c.index_mut-node.ensures.value c.arrive.new.node c.arrive.ensures.pages
