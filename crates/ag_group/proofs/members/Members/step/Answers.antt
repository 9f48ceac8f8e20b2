use Rattle.std.proofs.Common.{◌≡◌, ℕ, false, true, sym, ap, ◌∙◌, subst}
use Rattle.ag_model.specs.declared.event.Event.{Event}
use Rattle.ag_model.specs.declared.event.Event.TheVariants.{Harden}
use Rattle.ag_law_logs.specs.ProperRecords.{HardenedAreProper}
use Rattle.ag_rules.specs.Group.{Group, replica}
use Rattle.ag_rules.specs.Plan.{Plan, here, at_node}
use Rattle.ag_rules.specs.Cut.{cut}
use Rattle.ag_rules.specs.HardenEvent.{harden_part}
use Rattle.ag_rules.specs.FlushEvent.{flush_part}
use Rattle.ag_rules.specs.StartEvent.{start_part}
use Rattle.ag_rules.specs.Next.{plan_of, done}
use Rattle.ag_group.specs.Refusals.{leaves_node, leaves_group}
use Rattle.ag_group.specs.ProperAfter.{LeavesProper}
use Rattle.ag_group.proofs.ProperLogs.{same_places}
use Rattle.ag_group.proofs.Refused.{left_by, harden_left, flush_left, start_left}
use Rattle.ag_group.proofs.Cuts.{uncut_done, cut_left, flush_done}
use Rattle.ag_group.proofs.members.Members.step.Goals as goal

pub returns-in_ok-answer-in-Harden-clause-refused : goal.returns-in_ok-answer-in-Harden-clause-refused
returns-in_ok-answer-in-Harden-clause-refused g c =
    let before : Group = c.args.self.now.group in
    let plan : Plan = at_node before c.named-n.result (harden_part (here before c.named-n.result) (replica before c.named-n.result)) in
    left_by c.args.event.now leaves_node before c.harden.new.self.group (cut c.in-Harden.suffix plan) c.in_ok-answer-in-Harden.answer (λ why. ap (λ (e : Event). leaves_group e why) c.in-Harden.is) c.in_ok-answer-in-Harden.ensures.answer c.in_ok-answer-in-Harden.ensures.after
    (λ why q t. cut_left c.in-Harden.suffix plan before why (λ e. harden_left before c.named-n.result why e t) q)

pub returns-in_ok-answer-in-Start-clause-refused : goal.returns-in_ok-answer-in-Start-clause-refused
returns-in_ok-answer-in-Start-clause-refused g c =
    let before : Group = c.args.self.now.group in
    let plan : Plan = at_node before c.named-n-in-Start.result (start_part (here before c.named-n-in-Start.result) (replica before c.named-n-in-Start.result)) in
    left_by c.args.event.now leaves_node before c.start.new.self.group (cut c.in-Start.suffix plan) c.in_ok-answer-in-Start.answer (λ why. ap (λ (e : Event). leaves_group e why) c.in-Start.is) c.in_ok-answer-in-Start.ensures.answer c.in_ok-answer-in-Start.ensures.after
    (λ why q t. cut_left c.in-Start.suffix plan before why (λ e. start_left before c.named-n-in-Start.result why e t) q)

pub harden-requires-clause-proper : goal.harden-requires-clause-proper
harden-requires-clause-proper g c =
    let before : Group = c.args.self.now.group in
    let proper : LeavesProper before (Harden c.in-Harden.node c.in-Harden.suffix) = subst (λ (e : Event). LeavesProper before e) c.in-Harden.is c.requires.proper in
    subst (λ (n : ℕ). HardenedAreProper before.config.pages (at_node before n (harden_part (here before n) (replica before n))).after) (sym c.named-n.ensures.is) proper

pub deliver-requires-clause-proper : goal.deliver-requires-clause-proper
deliver-requires-clause-proper g c =
    let before : Group = c.args.self.now.group in
    let proper = subst (λ (e : Event). LeavesProper before e) c.in-Deliver.is c.requires.proper in
    same_places before c.in-Deliver.number false _ _ _ _ c.named-n-in-Deliver.ensures.is c.named-m.ensures.is proper

pub deliver-requires-in-Repeat-clause-proper : goal.deliver-requires-in-Repeat-clause-proper
deliver-requires-in-Repeat-clause-proper g c =
    let before : Group = c.args.self.now.group in
    let proper = subst (λ (e : Event). LeavesProper before e) c.in-Repeat.is c.requires.proper in
    same_places before c.in-Repeat.number true _ _ _ _ c.named-n-in-Repeat.ensures.is c.named-m-in-Repeat.ensures.is proper

pub returns-in_ok-answer-in-Flush-clause-allowed : goal.returns-in_ok-answer-in-Flush-clause-allowed
returns-in_ok-answer-in-Flush-clause-allowed g c =
    c.in_ok-answer-in-Flush.ensures.answer ∙ ap (λ (p : Plan). p.answer) (sym (flush_done c.args.self.now.group c.args.event.now c.in-Flush.node c.in-Flush.suffix c.named-n-in-Flush.result c.in-Flush.is c.requires.built c.named-n-in-Flush.ensures.is))

pub returns-in_ok-answer-in-Flush-clause-next : goal.returns-in_ok-answer-in-Flush-clause-next
returns-in_ok-answer-in-Flush-clause-next g c =
    c.in_ok-answer-in-Flush.ensures.after ∙ ap (λ (p : Plan). p.after) (sym (flush_done c.args.self.now.group c.args.event.now c.in-Flush.node c.in-Flush.suffix c.named-n-in-Flush.result c.in-Flush.is c.requires.built c.named-n-in-Flush.ensures.is))

pub returns-in_ok-answer-in-Flush-clause-refused : goal.returns-in_ok-answer-in-Flush-clause-refused
returns-in_ok-answer-in-Flush-clause-refused g c =
    let before : Group = c.args.self.now.group in
    left_by c.args.event.now leaves_node before c.flush.new.self.group (at_node before c.named-n-in-Flush.result (flush_part (here before c.named-n-in-Flush.result) (replica before c.named-n-in-Flush.result))) c.in_ok-answer-in-Flush.answer (λ why. ap (λ (e : Event). leaves_group e why) c.in-Flush.is) c.in_ok-answer-in-Flush.ensures.answer c.in_ok-answer-in-Flush.ensures.after (flush_left before c.named-n-in-Flush.result)

pub returns-in_ok-answer-in_default : goal.returns-in_ok-answer-in_default
returns-in_ok-answer-in_default g c =
    let same : done c.args.self.now.group c.args.event.now ≡ plan_of c.args.self.now.group c.args.event.now = uncut_done c.args.self.now.group c.args.event.now c.in_ok-answer-in_default.ensures.writes in
    record {
      allowed = c.in_ok-answer-in_default.ensures.answer ∙ ap (λ (p : Plan). p.answer) (sym same);
      next = c.in_ok-answer-in_default.ensures.after ∙ ap (λ (p : Plan). p.after) (sym same);
      refused = c.in_ok-answer-in_default.ensures.refused;
      config = c.in_ok-answer-in_default.ensures.config;
      fault = λ n is. absurd (cc is);
      lawful = λ n is. absurd (cc is);
    }
