use Rattle.std.proofs.Common.{ap}
use Rattle.ag_model.specs.declared.event.Event.{Event}
use Rattle.ag_rules.specs.Group.{Group, replica}
use Rattle.ag_rules.specs.Plan.{here, at_node}
use Rattle.ag_rules.specs.ReadEvent.{read_part}
use Rattle.ag_rules.specs.LookEvent.{page_part, sectors_part}
use Rattle.ag_rules.specs.Next.{at_session, token}
use Rattle.ag_group.specs.Refusals.{leaves_node, leaves_group}
use Rattle.ag_group.proofs.Refused.{left_by, read_left, page_left, sectors_left}
use Rattle.ag_group.proofs.members.Members.look_step.Goals as goal

pub returns-in_ok-answer-in-Read-clause-refused : goal.returns-in_ok-answer-in-Read-clause-refused
returns-in_ok-answer-in-Read-clause-refused g c =
    let before : Group = c.args.self.now.group in
    left_by c.args.event.now leaves_node before c.read.new.self.group (at_session before c.named-n.result c.in-Read.session (read_part (here before c.named-n.result) (replica before c.named-n.result) (token before c.in-Read.session) c.in-Read.key)) c.in_ok-answer-in-Read.answer (λ why. ap (λ (e : Event). leaves_group e why) c.in-Read.is) c.in_ok-answer-in-Read.ensures.answer c.in_ok-answer-in-Read.ensures.after (read_left before c.named-n.result c.in-Read.session c.in-Read.key)

pub returns-in_ok-answer-in-Page-clause-refused : goal.returns-in_ok-answer-in-Page-clause-refused
returns-in_ok-answer-in-Page-clause-refused g c =
    let before : Group = c.args.self.now.group in
    left_by c.args.event.now leaves_node before c.page.new.self.group (at_node before c.named-n-in-Page.result (page_part (here before c.named-n-in-Page.result) (replica before c.named-n-in-Page.result) c.in-Page.page)) c.in_ok-answer-in-Page.answer (λ why. ap (λ (e : Event). leaves_group e why) c.in-Page.is) c.in_ok-answer-in-Page.ensures.answer c.in_ok-answer-in-Page.ensures.after (page_left before c.named-n-in-Page.result c.in-Page.page)

pub returns-in_ok-answer-in-Sectors-clause-refused : goal.returns-in_ok-answer-in-Sectors-clause-refused
returns-in_ok-answer-in-Sectors-clause-refused g c =
    let before : Group = c.args.self.now.group in
    left_by c.args.event.now leaves_node before c.sectors.new.self.group (at_node before c.named-n-in-Sectors.result (sectors_part (replica before c.named-n-in-Sectors.result) c.in-Sectors.page)) c.in_ok-answer-in-Sectors.answer (λ why. ap (λ (e : Event). leaves_group e why) c.in-Sectors.is) c.in_ok-answer-in-Sectors.ensures.answer c.in_ok-answer-in-Sectors.ensures.after (sectors_left before c.named-n-in-Sectors.result c.in-Sectors.page)
