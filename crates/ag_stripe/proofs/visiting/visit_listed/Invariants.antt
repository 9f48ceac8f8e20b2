use Rattle.std.proofs.Common.{take}
use Rattle.ag_model.specs.Rows.{contains}
use Rattle.ag_stripe.specs.Reading.{WasRead}
use Rattle.ag_stripe.specs.Visits.{Visits}
use Rattle.ag_stripe.proofs.visiting.visit_listed.Given as goal

abbrev pub invariant-loop-page : goal.invariant-loop-page
invariant-loop-page g l = let h = g.H.PageHome in record {
  visits : Visits (h.told l.fn.home) l.fn.table l.table l.fn.bad l.least (λ p. contains p (take l.page-index l.pages));
  home : WasRead h.has_page h.told h.faults h.refusals h.leaves l.fn.home l.home;
}
