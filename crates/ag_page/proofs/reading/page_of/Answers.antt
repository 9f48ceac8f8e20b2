use Rattle.std.proofs.Common.{◌≡◌, true, ap, subst, ◌∙◌, arith}
use Rattle.std.proofs.lemmas.Result.{IfOk-weaker}
use Rattle.ag_page.specs.Spelling.{has_image, page_bytes, IsInRange}
use Rattle.ag_page.specs.Reading.{Answers, page_at}
use Rattle.ag_page.proofs.Pages.{PageIs, answer_is, page_again}
use Rattle.ag_page.proofs.reading.page_of.Goals as goal

pub returns-clause-fits : goal.returns-clause-fits
returns-clause-fits c = IfOk-weaker c.page_in.result (PageIs c.args.b.now) (λ v. has_image v ≡ true) (λ v p. p.image) (answer_is c.args.b.now c.page_in.result (λ i. omega (arith, c.type_inv.b i)) c.requires c.page_in.ensures)

pub returns-clause-range : goal.returns-clause-range
returns-clause-range c = IfOk-weaker c.page_in.result (PageIs c.args.b.now) (λ v. IsInRange v) (λ v p. p.range) (answer_is c.args.b.now c.page_in.result (λ i. omega (arith, c.type_inv.b i)) c.requires c.page_in.ensures)

pub returns-clause-bytes : goal.returns-clause-bytes
returns-clause-bytes c = IfOk-weaker c.page_in.result (PageIs c.args.b.now) (λ v. c.args.b.now ≡ page_bytes v) (λ v p. p.spelled) (answer_is c.args.b.now c.page_in.result (λ i. omega (arith, c.type_inv.b i)) c.requires c.page_in.ensures)

pub returns-clause-only : goal.returns-clause-only
returns-clause-only c = λ v is range e. subst (λ given. Answers c.page_in.result given) (ap page_at e ∙ page_again v is range) c.page_in.ensures
