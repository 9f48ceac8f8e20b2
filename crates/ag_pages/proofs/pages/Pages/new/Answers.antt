use Rattle.ag_pages.proofs.Fresh.{fresh-places, fresh-empty}
use Rattle.ag_pages.proofs.pages.Pages.new.Goals as goal

pub invariant_of-result : goal.invariant_of-result
invariant_of-result c = fresh-places c.args.pages c.args.applied c.in_ok-places.places.items c.requires.low c.requires.high c.in_ok-places.ensures

pub returns-clause-empty : goal.returns-clause-empty
returns-clause-empty c = fresh-empty c.args.pages c.args.applied c.in_ok-places.places.items c.in_ok-places.ensures
