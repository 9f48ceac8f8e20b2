use Rattle.std.proofs.Common.{ap}
use Rattle.ag_model.specs.declared.event.Event.{Event}
use Rattle.ag_rules.specs.Group.{Group, replica}
use Rattle.ag_rules.specs.Plan.{here, at_node}
use Rattle.ag_rules.specs.ApplyEvent.{apply_part}
use Rattle.ag_rules.specs.RaiseEvent.{raise_part}
use Rattle.ag_rules.specs.RedoEvent.{redo_part}
use Rattle.ag_group.specs.Refusals.{leaves_node, leaves_group}
use Rattle.ag_group.proofs.Refused.{left_by, apply_left, raise_left, redo_left}
use Rattle.ag_group.proofs.members.Members.follow_step.Goals as goal

pub returns-in_ok-answer-in-Redo-clause-refused : goal.returns-in_ok-answer-in-Redo-clause-refused
returns-in_ok-answer-in-Redo-clause-refused g c =
    let before : Group = c.args.self.now.group in
    left_by c.args.event.now leaves_node before c.redo.new.self.group (at_node before c.named-n-in-Redo.result (redo_part (here before c.named-n-in-Redo.result) (replica before c.named-n-in-Redo.result))) c.in_ok-answer-in-Redo.answer (λ why. ap (λ (e : Event). leaves_group e why) c.in-Redo.is) c.in_ok-answer-in-Redo.ensures.answer c.in_ok-answer-in-Redo.ensures.after (redo_left before c.named-n-in-Redo.result)

pub returns-in_ok-answer-in-Apply-clause-refused : goal.returns-in_ok-answer-in-Apply-clause-refused
returns-in_ok-answer-in-Apply-clause-refused g c =
    let before : Group = c.args.self.now.group in
    left_by c.args.event.now leaves_node before c.apply.new.self.group (at_node before c.named-n.result (apply_part (here before c.named-n.result) (replica before c.named-n.result) c.in-Apply.stripe)) c.in_ok-answer-in-Apply.answer (λ why. ap (λ (e : Event). leaves_group e why) c.in-Apply.is) c.in_ok-answer-in-Apply.ensures.answer c.in_ok-answer-in-Apply.ensures.after (apply_left before c.named-n.result c.in-Apply.stripe)

pub returns-in-Raise-clause-refused : goal.returns-in-Raise-clause-refused
returns-in-Raise-clause-refused g c =
    let before : Group = c.args.self.now.group in
    left_by c.args.event.now leaves_node before c.raise-answer.new.self.group (at_node before c.named-n-in-Raise.result (raise_part (here before c.named-n-in-Raise.result) (replica before c.named-n-in-Raise.result) c.in-Raise.stripe)) c.raise-answer.result (λ why. ap (λ (e : Event). leaves_group e why) c.in-Raise.is) c.raise-answer.ensures.answer c.raise-answer.ensures.after (raise_left before c.named-n-in-Raise.result c.in-Raise.stripe)
