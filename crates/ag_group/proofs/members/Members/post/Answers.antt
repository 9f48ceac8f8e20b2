use Rattle.std.proofs.Common.{◌≡◌, ◌<◌, ◌++◌, ◌∷◌, [], false, List, length, set, sym, ap, ◌∙◌, subst, arith}
use Rattle.std.specs.Prelude.{Option, IfSome, nat_le}
use Rattle.ag_model.specs.declared.message.Message.{Message}
use Rattle.ag_rules.specs.Group.{Group, is_full}
use Rattle.ag_rules.specs.Plan.{posted}
use Rattle.ag_node.specs.Out.{posting_of}
use Rattle.ag_group.specs.Seen.{GroupView, group_of}
use Rattle.ag_group.proofs.LinkRows.{columns_at, group_with_row, link_at, with_row}
use Rattle.ag_group.proofs.members.Members.post.Goals as goal
use Rattle.ag_group.proofs.members.Members.post.Goals.{in-Hello-2, in-Block-2, in-PageGive-2, in-Resume-2}

pub push-requires-clause-within : goal.push-requires-clause-within
push-requires-clause-within g c =
    let inside = c.self.inside in
    let modes : length inside.config.modes ≡ length c.args.self.now.group.config.modes = ap (λ (v : GroupView). length v.group.config.modes) c.self.view_is in
    let within : c.from.result < length inside.links.items = omega (arith, c.self.invariant.rows, c.requires.from, c.from.ensures, modes) in
    let columns : length c.index_mut-links.result.now ≡ length inside.config.modes = columns_at inside.config inside.nodes.items inside.links.items inside.register c.from.result c.index_mut-links.result.now within c.index_mut-links.ensures.value (length inside.tokens.items) c.self.invariant in
    omega (arith, columns, c.requires.to, modes)

pub push-requires-clause-room : goal.push-requires-clause-room
push-requires-clause-room g c =
    let inside = c.self.inside in
    let modes : length inside.config.modes ≡ length c.args.self.now.group.config.modes = ap (λ (v : GroupView). length v.group.config.modes) c.self.view_is in
    let within : c.from.result < length inside.links.items = omega (arith, c.self.invariant.rows, c.requires.from, c.from.ensures, modes) in
    let room : is_full c.args.self.now.group c.args.n c.args.to ≡ false = subst (λ (o : Option Message). IfSome o (λ (m : Message). is_full c.args.self.now.group c.args.n c.args.to ≡ false)) c.in-Some.is c.requires.room in
    ap (λ (messages : List Message). nat_le 1024 (length messages)) (link_at inside.config inside.nodes.items inside.links.items inside.register c.from.result c.index_mut-links.result.now within c.index_mut-links.ensures.value inside.tokens.items c.args.self.now.group c.args.n c.args.to c.from.ensures (ap (λ (v : GroupView). v.group) c.self.view_is)) ∙ room

pub invariant_of-self : goal.invariant_of-self
invariant_of-self g c =
    let inside = c.self.inside in
    let modes : length inside.config.modes ≡ length c.args.self.now.group.config.modes = ap (λ (v : GroupView). length v.group.config.modes) c.self.view_is in
    let within : c.from.result < length inside.links.items = omega (arith, c.self.invariant.rows, c.requires.from, c.from.ensures, modes) in
    group_with_row inside.config inside.nodes.items inside.links.items inside.register c.from.result c.index_mut-links.result.now within c.index_mut-links.ensures.value (length inside.tokens.items) c.self.invariant c.push.new.self c.push.ensures.count

pub invariant_of-self-in_ok-push-2 : goal.invariant_of-self-in_ok-push-2
invariant_of-self-in_ok-push-2 g c =
    let inside = c.self.inside in
    let modes : length inside.config.modes ≡ length c.args.self.now.group.config.modes = ap (λ (v : GroupView). length v.group.config.modes) c.self.view_is in
    let within : c.from.result < length inside.links.items = omega (arith, c.self.invariant.rows, c.requires.from, c.from.ensures, modes) in
    group_with_row inside.config inside.nodes.items inside.links.items inside.register c.from.result c.index_mut-links.result.now within c.index_mut-links.ensures.value (length inside.tokens.items) c.self.invariant c.push.new.self c.push.ensures.count

pub invariant_of-self-in_ok-push-4 : goal.invariant_of-self-in_ok-push-4
invariant_of-self-in_ok-push-4 g c =
    let inside = c.self.inside in
    let modes : length inside.config.modes ≡ length c.args.self.now.group.config.modes = ap (λ (v : GroupView). length v.group.config.modes) c.self.view_is in
    let within : c.from.result < length inside.links.items = omega (arith, c.self.invariant.rows, c.requires.from, c.from.ensures, modes) in
    group_with_row inside.config inside.nodes.items inside.links.items inside.register c.from.result c.index_mut-links.result.now within c.index_mut-links.ensures.value (length inside.tokens.items) c.self.invariant c.push.new.self c.push.ensures.count

pub returns-in_ok-push-clause-after : goal.returns-in_ok-push-clause-after
returns-in_ok-push-clause-after g c =
    let inside = c.self.inside in
    let modes : length inside.config.modes ≡ length c.args.self.now.group.config.modes = ap (λ (v : GroupView). length v.group.config.modes) c.self.view_is in
    let within : c.from.result < length inside.links.items = omega (arith, c.self.invariant.rows, c.requires.from, c.from.ensures, modes) in
    let message : Message = c.in-Some.message in
    let now : Group = c.args.self.now.group in
    let is : group_of inside.config inside.nodes.items (set inside.links.items c.from.result c.push.new.self) inside.register inside.tokens.items ≡ posted c.args.n (posting_of c.args.to c.args.message) now =
    with_row inside.config inside.nodes.items inside.links.items inside.register c.from.result c.index_mut-links.result.now within c.index_mut-links.ensures.value inside.tokens.items now c.args.n c.args.to c.push.new.self (λ (messages : List Message). messages ++ message ∷ []) c.from.ensures (ap (λ (v : GroupView). v.group) c.self.view_is) c.in_ok-push.ensures.ok
    ∙ ap (λ (o : Option Message). posted c.args.n (posting_of c.args.to o) now) (sym c.in-Some.is) in
    elim c.match-message-3.branch [
      | in-Hello-2 w ↦ ap (λ (v : GroupView). v.group) w.self-is ∙ is
      | in-Block-2 w ↦ ap (λ (v : GroupView). v.group) w.self-is ∙ is
      | in-PageGive-2 w ↦ ap (λ (v : GroupView). v.group) w.self-is ∙ is
      | in-Resume-2 w ↦ ap (λ (v : GroupView). v.group) w.self-is ∙ is
    ]

pub returns-in_ok-push-clause-config : goal.returns-in_ok-push-clause-config
returns-in_ok-push-clause-config g c =
    elim c.match-message-3.branch [
      | in-Hello-2 w ↦ ap (λ (v : GroupView). v.group.config) w.self-is ∙ ap (λ (v : GroupView). v.group.config) c.self.view_is
      | in-Block-2 w ↦ ap (λ (v : GroupView). v.group.config) w.self-is ∙ ap (λ (v : GroupView). v.group.config) c.self.view_is
      | in-PageGive-2 w ↦ ap (λ (v : GroupView). v.group.config) w.self-is ∙ ap (λ (v : GroupView). v.group.config) c.self.view_is
      | in-Resume-2 w ↦ ap (λ (v : GroupView). v.group.config) w.self-is ∙ ap (λ (v : GroupView). v.group.config) c.self.view_is
    ]
