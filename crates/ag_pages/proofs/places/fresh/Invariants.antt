use Rattle.ag_pages.specs.Views.{AreFresh}
use Rattle.ag_pages.proofs.places.fresh.Given as goal

abbrev pub invariant-loop-stripe : goal.invariant-loop-stripe
invariant-loop-stripe l = AreFresh l.pages l.applied l.stripe l.places.items
