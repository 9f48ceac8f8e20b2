use Rattle.std.proofs.Common.{◌≡◌, true, sym, ap, ◌∙◌, subst}
use Rattle.ag_model.specs.Proper.{IsProper}
use Rattle.ag_model.specs.declared.message.Body.TheVariants.{Block}
use Rattle.ag_rules.specs.Plan.{Part}
use Rattle.ag_node.specs.Sites.{here_at}
use Rattle.ag_group.proofs.Cuts.{message_up, ack_cut, ack_out}
use Rattle.ag_group.proofs.members.messages.arrive.Goals as goal

pub returns-in-Ack-clause-answer : goal.returns-in-Ack-clause-answer
returns-in-Ack-clause-answer g c =
    let up : c.args.node.now.replica.up ≡ true = sym c.is_up.ensures ∙ c.if-not-is_up.false in
    c.acknowledge-answer.ensures.answer ∙ ap (λ (x : Part). x.answer) (ack_cut c.args.suffix.now (here_at c.args.site.now) c.args.from c.args.node.now.replica c.args.full c.args.message.now c.in-Ack.hardened c.in-Ack.low up c.in-Ack.is)

pub returns-in-Ack-clause-after : goal.returns-in-Ack-clause-after
returns-in-Ack-clause-after g c =
    let up : c.args.node.now.replica.up ≡ true = sym c.is_up.ensures ∙ c.if-not-is_up.false in
    c.acknowledge-answer.ensures.after ∙ ap (λ (x : Part). x.after) (ack_cut c.args.suffix.now (here_at c.args.site.now) c.args.from c.args.node.now.replica c.args.full c.args.message.now c.in-Ack.hardened c.in-Ack.low up c.in-Ack.is)

pub returns-in-Ack-clause-out : goal.returns-in-Ack-clause-out
returns-in-Ack-clause-out g c =
    let up : c.args.node.now.replica.up ≡ true = sym c.is_up.ensures ∙ c.if-not-is_up.false in
    sym (ack_out c.args.from c.args.node.now.replica c.args.message.now.term c.in-Ack.hardened c.in-Ack.low)
    ∙ ap (λ (x : Part). x.out) (ack_cut c.args.suffix.now (here_at c.args.site.now) c.args.from c.args.node.now.replica c.args.full c.args.message.now c.in-Ack.hardened c.in-Ack.low up c.in-Ack.is)

pub block-requires-clause-proper : goal.block-requires-clause-proper
block-requires-clause-proper g c =
    let up : c.args.node.now.replica.up ≡ true = sym c.is_up.ensures ∙ c.if-not-is_up.false in
    subst (λ (p : Part). IsProper c.args.site.now.pages p.after.kept.log)
    (message_up (here_at c.args.site.now) c.args.from c.args.node.now.replica c.args.full c.args.message.now (Block c.in-Block.block) up c.in-Block.is) c.requires.proper
