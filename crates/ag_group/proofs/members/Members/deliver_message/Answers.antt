use Rattle.std.proofs.Common.{◌≡◌, List, [], length, get_or, Bool, false, sym, ap, ◌∙◌, subst, ne_eqb}
use Rattle.std.specs.Prelude.{Option, Some, None, IfSome, nat_le, if◌then◌else◌}
use Rattle.ag_model.specs.declared.answer.Answer.{Answer}
use Rattle.ag_model.specs.declared.message.Message.{Message}
use Rattle.ag_model.specs.declared.event.Suffix.{Suffix}
use Rattle.ag_rules.specs.Group.{Group, replica, with_replica, is_full}
use Rattle.ag_rules.specs.Plan.{Part, here, posted}
use Rattle.ag_rules.specs.DeliverEvent.{message_part, leaves, taken}
use Rattle.ag_node.specs.Out.{posting_of}
use Rattle.ag_group.specs.Arrivals.{IsArrival, cut_arrival}
use Rattle.ag_group.proofs.Cuts.{none_answer, none_after, some_answer, some_after}
use Rattle.ag_group.proofs.ProperLogs.{arrival_proper}
use Rattle.ag_group.proofs.Replies.{same_room}
use Rattle.ag_group.proofs.members.Members.deliver_message.Goals as goal

pub post-requires-clause-room : goal.post-requires-clause-room
post-requires-clause-room g c =
    let had : IfSome c.in-Some.reply (λ _. c.is_full-full.result ≡ false)
    = subst (λ (o : Option (Answer × Option Message)). IfSome o (λ x. IfSome x.1 (λ _. c.is_full-full.result ≡ false))) c.in-Some.is c.in_ok-answer.ensures.room in
    same_room c.in-Some.reply c.is_full-full.result _ had
    (c.take_unless.ensures.back
    ∙ ap (λ (links : List (List (List Message))). nat_le 1024 (length (get_or (get_or links c.args.m []) c.args.n []))) c.in_ok-answer.ensures.links
    ∙ sym c.is_full-full.ensures)

pub returns-in_default-clause-answer : goal.returns-in_default-clause-answer
returns-in_default-clause-answer g c =
    none_answer c.args.suffix.now c.args.self.now.group c.args.n c.args.m c.args.number c.args.repeats (ne_eqb c.args.n c.args.m c.if-n-m.false)
    (subst (λ (found : Option (Answer × Option Message)). IsArrival c.args.self.now.group c.arrives.new.self.group c.args.n c.args.m c.args.number c.is_full-full.result c.args.suffix.now found) c.in_default.is c.in_ok-answer.ensures.part).0

pub returns-in_default-clause-after : goal.returns-in_default-clause-after
returns-in_default-clause-after g c =
    let none : IsArrival c.args.self.now.group c.arrives.new.self.group c.args.n c.args.m c.args.number c.is_full-full.result c.args.suffix.now None
    = subst (λ (found : Option (Answer × Option Message)). IsArrival c.args.self.now.group c.arrives.new.self.group c.args.n c.args.m c.args.number c.is_full-full.result c.args.suffix.now found) c.in_default.is c.in_ok-answer.ensures.part in
    none.1 ∙ none_after c.args.suffix.now c.args.self.now.group c.args.n c.args.m c.args.number c.args.repeats (ne_eqb c.args.n c.args.m c.if-n-m.false) none.0

pub returns-clause-answer : goal.returns-clause-answer
returns-clause-answer g c =
    let before : Group = c.args.self.now.group in
    let found : IsArrival before c.arrives.new.self.group c.args.n c.args.m c.args.number c.is_full-full.result c.args.suffix.now (Some (c.in-Some.answer, c.in-Some.reply))
    = subst (λ (found : Option (Answer × Option Message)). IsArrival before c.arrives.new.self.group c.args.n c.args.m c.args.number c.is_full-full.result c.args.suffix.now found) c.in-Some.is c.in_ok-answer.ensures.part in
    found.3.answered ∙ ap (λ (b : Bool). (cut_arrival before c.args.n c.args.m b c.args.suffix.now found.0).answer) c.is_full-full.ensures
    ∙ some_answer c.args.suffix.now before c.args.n c.args.m c.args.number c.args.repeats found.0 (ne_eqb c.args.n c.args.m c.if-n-m.false) found.1

pub returns-clause-after : goal.returns-clause-after
returns-clause-after g c =
    let before : Group = c.args.self.now.group in
    let s : Suffix = c.args.suffix.now in
    let found : IsArrival before c.arrives.new.self.group c.args.n c.args.m c.args.number c.is_full-full.result s (Some (c.in-Some.answer, c.in-Some.reply))
    = subst (λ (found : Option (Answer × Option Message)). IsArrival before c.arrives.new.self.group c.args.n c.args.m c.args.number c.is_full-full.result s found) c.in-Some.is c.in_ok-answer.ensures.part in
    let full : c.is_full-full.result ≡ is_full before c.args.m c.args.n = c.is_full-full.ensures in
    let part : Bool → Part = λ b. cut_arrival before c.args.n c.args.m b s found.0 in
    let there : leaves c.in-Some.answer ≡ leaves (message_part (here before c.args.m) c.args.n (replica before c.args.m) (is_full before c.args.m c.args.n) found.0).answer
    = found.4 ∙ ap (λ (b : Bool). leaves (message_part (here before c.args.m) c.args.n (replica before c.args.m) b found.0).answer) full in
    let left : c.arrives.new.self.group ≡ with_replica before c.args.m (part (is_full before c.args.m c.args.n)).after = found.3.left ∙ ap (λ (b : Bool). with_replica before c.args.m (part b).after) full in
    let sent : posting_of c.args.n c.in-Some.reply ≡ (part (is_full before c.args.m c.args.n)).out = found.3.replied ∙ ap (λ (b : Bool). (part b).out) full in
    c.in_ok-post.ensures.after ∙ ap (posted c.args.m (posting_of c.args.n c.in-Some.reply)) c.take_unless.ensures.after
    ∙ (λ i. posted c.args.m (sent i) (if c.stays-stays.ensures i then left i else taken (left i) c.args.n c.args.m c.args.number))
    ∙ some_after s before c.args.n c.args.m c.args.number c.args.repeats (leaves c.in-Some.answer) found.0 (ne_eqb c.args.n c.args.m c.if-n-m.false) found.1 there

pub arrives-requires-clause-proper : goal.arrives-requires-clause-proper
arrives-requires-clause-proper g c = arrival_proper c.args.self.now.group c.args.n c.args.m c.args.number c.args.repeats c.is_full-full.result (ne_eqb c.args.n c.args.m c.if-n-m.false) c.is_full-full.ensures c.requires.proper
