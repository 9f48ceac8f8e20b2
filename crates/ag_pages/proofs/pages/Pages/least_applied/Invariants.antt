use Rattle.std.proofs.Common.{◌≡◌, take}
use Rattle.ag_rules.specs.Replica.{least}
use Rattle.ag_pages.proofs.pages.Pages.least_applied.Given as goal

abbrev pub invariant-loop-stripe : goal.invariant-loop-stripe
invariant-loop-stripe l = l.least ≡ least (take l.stripe l.self.applied)
