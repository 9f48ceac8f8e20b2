use Rattle.std.proofs.Common.{ap}
use Rattle.ag_model.specs.declared.event.Event.{Event}
use Rattle.ag_rules.specs.Group.{Group, replica, is_full}
use Rattle.ag_rules.specs.Plan.{here, at_node}
use Rattle.ag_rules.specs.SetEvent.{set_part}
use Rattle.ag_rules.specs.SendEvent.{send_part}
use Rattle.ag_rules.specs.DeliverEvent.{plan_of_lose}
use Rattle.ag_rules.specs.CrashEvent.{crash_part}
use Rattle.ag_rules.specs.Next.{apart}
use Rattle.ag_group.specs.Refusals.{leaves_node, leaves_group}
use Rattle.ag_group.proofs.Refused.{left_by, set_left, send_left, lose_left, crash_left}
use Rattle.ag_group.proofs.members.Members.quiet_step.Goals as goal

pub returns-in_ok-answer-in-Set-clause-refused : goal.returns-in_ok-answer-in-Set-clause-refused
returns-in_ok-answer-in-Set-clause-refused g c =
    let before : Group = c.args.self.now.group in
    left_by c.args.event.now leaves_node before c.set.new.self.group (at_node before c.named-n.result (set_part (here before c.named-n.result) (replica before c.named-n.result) c.in-Set.pairs)) c.in_ok-answer-in-Set.answer (λ why. ap (λ (e : Event). leaves_group e why) c.in-Set.is) c.in_ok-answer-in-Set.ensures.answer c.in_ok-answer-in-Set.ensures.after (set_left before c.named-n.result c.in-Set.pairs)

pub returns-in_ok-answer-in-Send-clause-refused : goal.returns-in_ok-answer-in-Send-clause-refused
returns-in_ok-answer-in-Send-clause-refused g c =
    let before : Group = c.args.self.now.group in
    left_by c.args.event.now leaves_node before c.send.new.self.group (apart before c.named-n-in-Send.result c.named-m.result (at_node before c.named-n-in-Send.result (send_part (here before c.named-n-in-Send.result) (replica before c.named-n-in-Send.result) c.named-m.result (is_full before c.named-n-in-Send.result c.named-m.result)))) c.in_ok-answer-in-Send.answer (λ why. ap (λ (e : Event). leaves_group e why) c.in-Send.is) c.in_ok-answer-in-Send.ensures.answer c.in_ok-answer-in-Send.ensures.after (send_left before c.named-n-in-Send.result c.named-m.result)

pub returns-in-Lose-clause-refused : goal.returns-in-Lose-clause-refused
returns-in-Lose-clause-refused g c =
    let before : Group = c.args.self.now.group in
    left_by c.args.event.now leaves_node before c.lose-answer.new.self.group (apart before c.named-n-in-Lose.result c.named-m-in-Lose.result (plan_of_lose before c.named-n-in-Lose.result c.named-m-in-Lose.result c.in-Lose.number)) c.lose-answer.result (λ why. ap (λ (e : Event). leaves_group e why) c.in-Lose.is) c.lose-answer.ensures.answer c.lose-answer.ensures.after (lose_left before c.named-n-in-Lose.result c.named-m-in-Lose.result c.in-Lose.number)

pub returns-in-Crash-clause-refused : goal.returns-in-Crash-clause-refused
returns-in-Crash-clause-refused g c =
    let before : Group = c.args.self.now.group in
    left_by c.args.event.now leaves_node before c.crash-answer.new.self.group (at_node before c.named-n-in-Crash.result (crash_part (here before c.named-n-in-Crash.result) (replica before c.named-n-in-Crash.result))) c.crash-answer.result (λ why. ap (λ (e : Event). leaves_group e why) c.in-Crash.is) c.crash-answer.ensures.answer c.crash-answer.ensures.after (crash_left before c.named-n-in-Crash.result)
