use Rattle.std.proofs.Common.{◌≡◌, sym, subst}
use Rattle.ag_model.specs.declared.config.Config.{Config}
use Rattle.ag_rules.specs.Group.{Group}
use Rattle.ag_rules.specs.Allowed.{next}
use Rattle.ag_rules.specs.Script.{IsConfig, IsEvent}
use Rattle.ag_law_logs.specs.Reached.{IsReached}
use Rattle.ag_group.specs.Seen.{GroupView}
use Rattle.ag_group.proofs.ProperLogs.{leaves_proper}
use Rattle.ag_group.proofs.group.Group.step.Goals as goal

pub step-requires-clause-proper : goal.step-requires-clause-proper
step-requires-clause-proper g c =
    let before : Group = c.self.inside.members.group in
    let known : IsConfig before.config × IsReached before.config before = c.self.invariant c.if-self.false in
    let one : IsEvent before.config c.args.event.now = subst (λ (v : GroupView). IsEvent v.group.config c.args.event.now) (sym c.self.view_is) c.requires.event in
    let law = c.reached_logs_are_proper.ensures in
    leaves_proper before (λ e is. law.proper before.config (next before e) known.0 (law.next before.config before e known.1 is)) c.args.event.now one

pub invariant_of-self : goal.invariant_of-self
invariant_of-self g c _ =
    let before : Group = c.self.inside.members.group in
    let after : Group = c.step.new.self.group in
    let known : IsConfig before.config × IsReached before.config before = c.self.invariant c.if-self.false in
    let one : IsEvent before.config c.args.event.now = subst (λ (v : GroupView). IsEvent v.group.config c.args.event.now) (sym c.self.view_is) c.requires.event in
    let same : before.config ≡ after.config = sym c.in-Ok.ensures.config in
    let there : IsReached before.config (next before c.args.event.now) = c.reached_logs_are_proper.ensures.next before.config before c.args.event.now known.1 one in
    (subst (λ (x : Config). IsConfig x) same known.0, subst (λ (x : Config). IsReached x after) same (subst (λ (x : Group). IsReached before.config x) (sym c.in-Ok.ensures.next) there))
