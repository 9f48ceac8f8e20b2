use Rattle.std.proofs.Common.{◌≡◌, ap, subst, ◌∙◌, arith}
use Rattle.std.proofs.lemmas.Result.{IfOk-weaker}
use Rattle.ag_wire.specs.Spelling.{spelling, HasSpelling}
use Rattle.ag_wire.specs.Reading.{Answers, reading}
use Rattle.ag_wire.proofs.Messages.{read_is, reading_again}
use Rattle.ag_wire.proofs.decoding.decode.Goals as goal

pub returns-clause-fits : goal.returns-clause-fits
returns-clause-fits c = IfOk-weaker c.read.result _ HasSpelling (λ m p. p.0) (read_is c.args.b.now c.read.result (λ i. omega (arith, c.type_inv.b i)) c.read.ensures)

pub returns-clause-spelled : goal.returns-clause-spelled
returns-clause-spelled c = IfOk-weaker c.read.result _ (λ m. c.args.b.now ≡ spelling m) (λ m p. p.1) (read_is c.args.b.now c.read.result (λ i. omega (arith, c.type_inv.b i)) c.read.ensures)

pub returns-clause-only : goal.returns-clause-only
returns-clause-only c = λ m h e. subst (λ given. Answers c.read.result given) (ap reading e ∙ reading_again m h) c.read.ensures
