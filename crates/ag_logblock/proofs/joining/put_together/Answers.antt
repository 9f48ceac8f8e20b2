use Rattle.std.proofs.Common.{◌≡◌, ◌∙◌, ap, subst}
use Rattle.std.proofs.lemmas.Result.{IfOk-weaker}
use Rattle.ag_logblock.specs.Block.{block, HasBlock}
use Rattle.ag_logblock.specs.Fitting.{payload_of, head_of, Answers}
use Rattle.ag_logblock.proofs.Wholes.{put_together_is, block_again}
use Rattle.ag_logblock.proofs.joining.put_together.Goals as goal

pub returns-clause-fits : goal.returns-clause-fits
returns-clause-fits c = IfOk-weaker c.join.result _ (λ h. HasBlock h (payload_of c.args.s.now)) (λ h p. p.0) (put_together_is c.args.s.now c.join.result c.join.ensures.sectors c.join.ensures.exact)

pub returns-clause-block : goal.returns-clause-block
returns-clause-block c = IfOk-weaker c.join.result _ (λ h. c.args.s.now ≡ block h (payload_of c.args.s.now)) (λ h p. p.1) (put_together_is c.args.s.now c.join.result c.join.ensures.sectors c.join.ensures.exact)

pub returns-clause-only : goal.returns-clause-only
returns-clause-only c = λ h text has e. subst (λ given. Answers c.join.result given) (ap head_of e ∙ (block_again h text has).0) c.join.ensures.exact

pub returns-clause-payload : goal.returns-clause-payload
returns-clause-payload c = λ h text has e. ap payload_of e ∙ (block_again h text has).1
