use Rattle.std.proofs.Common.{take}
use Rattle.std.specs.Prelude.{None}
use Rattle.ag_stripe.specs.Reading.{WasRead}
use Rattle.ag_stripe.specs.Redo.{is_touched}
use Rattle.ag_stripe.specs.Visits.{Visits}
use Rattle.ag_stripe.proofs.visiting.visit_all.Given as goal

abbrev pub invariant-loop-entry : goal.invariant-loop-entry
invariant-loop-entry g l = let h = g.H.PageHome in record {
  visits : Visits (h.told l.fn.home) l.fn.table l.table None l.least (is_touched l.fn.table (take l.entry-index l.records));
  home : WasRead h.has_page h.told h.faults h.refusals h.leaves l.fn.home l.home;
}
