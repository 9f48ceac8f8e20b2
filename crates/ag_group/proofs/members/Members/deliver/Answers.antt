use Rattle.std.proofs.Common.{sym, ◌∙◌}
use Rattle.ag_rules.specs.DeliverEvent.{plan_of_deliver}
use Rattle.ag_rules.specs.Next.{apart}
use Rattle.ag_group.proofs.Cuts.{cut_left}
use Rattle.ag_group.proofs.Refused.{deliver_left}
use Rattle.ag_group.proofs.members.Members.deliver.Goals as goal

pub returns-clause-refused : goal.returns-clause-refused
returns-clause-refused g c why is t =
    c.in_ok-answer.ensures.after
    ∙ cut_left c.args.suffix.now (apart c.args.self.now.group c.args.n c.args.m (plan_of_deliver c.args.self.now.group c.args.n c.args.m c.args.number c.args.repeats)) c.args.self.now.group why
    (λ e. deliver_left c.args.self.now.group c.args.n c.args.m c.args.number c.args.repeats (λ message two is. (c.in_ok-answer.ensures.built message two is).0) why e t) (sym c.in_ok-answer.ensures.answer ∙ is)
