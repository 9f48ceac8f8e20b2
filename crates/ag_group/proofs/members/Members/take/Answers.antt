use Rattle.std.proofs.Common.{◌≡◌, ◌<◌, ◌++◌, ◌-◌, [], List, length, get_or, take, drop, ap, ◌∙◌, arith}
use Rattle.std.proofs.lemmas.List.{length-set}
use Rattle.ag_model.specs.declared.message.Message.{Message}
use Rattle.ag_group.specs.Seen.{GroupView}
use Rattle.ag_group.proofs.LinkRows.{columns_at, group_with_row, with_row}
use Rattle.ag_group.proofs.members.Members.take.Goals as goal

pub remove-requires-clause-within : goal.remove-requires-clause-within
remove-requires-clause-within g c =
    let inside = c.self.inside in
    let modes : length inside.config.modes ≡ length c.args.self.now.group.config.modes = ap (λ (v : GroupView). length v.group.config.modes) c.self.view_is in
    let within : c.from.result < length inside.links.items = omega (arith, c.self.invariant.rows, c.requires.from, c.from.ensures, modes) in
    let columns : length c.index_mut-links.result.now ≡ length inside.config.modes = columns_at inside.config inside.nodes.items inside.links.items inside.register c.from.result c.index_mut-links.result.now within c.index_mut-links.ensures.value (length inside.tokens.items) c.self.invariant in
    omega (arith, columns, c.requires.to, modes)

pub invariant_of-self : goal.invariant_of-self
invariant_of-self g c =
    let inside = c.self.inside in
    let modes : length inside.config.modes ≡ length c.args.self.now.group.config.modes = ap (λ (v : GroupView). length v.group.config.modes) c.self.view_is in
    let within : c.from.result < length inside.links.items = omega (arith, c.self.invariant.rows, c.requires.from, c.from.ensures, modes) in
    let row = c.index_mut-links.result.now in
    group_with_row inside.config inside.nodes.items inside.links.items inside.register c.from.result c.index_mut-links.result.now within c.index_mut-links.ensures.value (length inside.tokens.items) c.self.invariant c.remove.new.self
    (ap (λ (r : List (List Message)). length r) c.remove.ensures ∙ length-set row c.args.m (take (c.args.number - 1) (get_or row c.args.m []) ++ drop c.args.number (get_or row c.args.m [])))

pub returns-clause-after : goal.returns-clause-after
returns-clause-after g c =
    let inside = c.self.inside in
    let modes : length inside.config.modes ≡ length c.args.self.now.group.config.modes = ap (λ (v : GroupView). length v.group.config.modes) c.self.view_is in
    let within : c.from.result < length inside.links.items = omega (arith, c.self.invariant.rows, c.requires.from, c.from.ensures, modes) in
    with_row inside.config inside.nodes.items inside.links.items inside.register c.from.result c.index_mut-links.result.now within c.index_mut-links.ensures.value inside.tokens.items c.args.self.now.group c.args.n c.args.m c.remove.new.self (λ (messages : List Message). take (c.args.number - 1) messages ++ drop c.args.number messages) c.from.ensures (ap (λ (v : GroupView). v.group) c.self.view_is) c.remove.ensures
