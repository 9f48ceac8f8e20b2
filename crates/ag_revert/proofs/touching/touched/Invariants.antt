use Rattle.std.proofs.Common.{◌≡◌, take}
use Rattle.std.specs.List.{list_any}
use Rattle.ag_model.specs.Rows.{touches}
use Rattle.ag_model.specs.PageSets.{pages_where}
use Rattle.ag_revert.proofs.touching.touched.Given as goal

abbrev pub invariant-loop-entry : goal.invariant-loop-entry
invariant-loop-entry l = l.set ≡ pages_where (λ p. list_any (touches l.pages p) (take l.entry-index l.records))
