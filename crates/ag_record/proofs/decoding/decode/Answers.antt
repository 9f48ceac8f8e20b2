use Rattle.std.proofs.Common.{◌≡◌, ◌++◌, ap, subst, ◌∙◌, drop, arith}
use Rattle.std.proofs.lemmas.Result.{IfOk-weaker}
use Rattle.ag_model.specs.Sizes.{record_size}
use Rattle.ag_record.specs.Spelling.{spelling, HasSpelling}
use Rattle.ag_record.specs.Reading.{Answers, reading}
use Rattle.ag_record.proofs.Records.{read_is, reading_again}
use Rattle.ag_record.proofs.decoding.decode.Goals as goal

pub returns-clause-fits : goal.returns-clause-fits
returns-clause-fits c = IfOk-weaker c.read.result _ (λ x. HasSpelling x.0) (λ x p. p.0) (read_is c.args.b.now c.read.result (λ i. omega (arith, c.type_inv.b i)) c.read.ensures)

pub returns-clause-spelled : goal.returns-clause-spelled
returns-clause-spelled c = IfOk-weaker c.read.result _ (λ x. c.args.b.now ≡ spelling x.0 ++ drop x.1 c.args.b.now) (λ x p. p.1) (read_is c.args.b.now c.read.result (λ i. omega (arith, c.type_inv.b i)) c.read.ensures)

pub returns-clause-size : goal.returns-clause-size
returns-clause-size c = IfOk-weaker c.read.result _ (λ x. x.1 ≡ record_size x.0) (λ x p. p.2) (read_is c.args.b.now c.read.result (λ i. omega (arith, c.type_inv.b i)) c.read.ensures)

pub returns-clause-only : goal.returns-clause-only
returns-clause-only c = λ r rest h e. subst (λ given. Answers c.read.result given) (ap reading e ∙ reading_again r rest h) c.read.ensures
