use Rattle.std.proofs.Common.{◌≡◌, ◌∙◌, refl, ap, sym, subst}
use Rattle.std.specs.Prelude.{Option, MatchOption}
use Rattle.ag_model.specs.declared.answer.Answer.{Answer}
use Rattle.ag_model.specs.declared.message.Message.{Message}
use Rattle.ag_rules.specs.Plan.{Part, sending}
use Rattle.ag_rules.specs.BlockMessage.{block_part}
use Rattle.ag_node.specs.Hardening.{hardens_block}
use Rattle.ag_node.specs.Out.{posting_of}
use Rattle.ag_node.specs.Sites.{here_at}
use Rattle.ag_node.proofs.Cutting.{cut_at_block}
use Rattle.ag_node.proofs.node.Node.block.Goals as goal

pub returns-in-Stop-clause-answer : goal.returns-in-Stop-clause-answer
returns-in-Stop-clause-answer g c =
    let r = c.args.self.now.replica in
    let site = c.args.site.now in
    let b = c.args.block.now in
    let whole = block_part (here_at site) c.args.from r c.args.full c.args.term b in
    let part : whole ≡ hardens_block c.args.from r b
    = subst (λ (o : Option (Answer × Option Message)). MatchOption o (whole ≡ hardens_block c.args.from r b) (λ x. whole ≡ sending x.0 (posting_of c.args.from x.1) r)) c.in_default.is c.in_ok-told.ensures.part in
    let cut = cut_at_block site.pages site.number c.args.suffix.now r whole b.records _ c.in_ok-append_block.field-0 _ (ap (λ (x : Part). x.writes) part) refl c.in_ok-append_block.ensures.reach c.in-Stop.is in
    c.stopped.ensures ∙ ap (λ (x : Part). x.answer) (sym cut)
