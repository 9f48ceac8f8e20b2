use Rattle.std.proofs.Common.{◌≡◌, map, take, min, get_or}
use Rattle.std.specs.List.{fold}
use Rattle.ag_pool.specs.declared.frame.StripeLsns.{StripeLsns}
use Rattle.ag_pool.proofs.pool.least_applied.Given as goal

abbrev pub invariant-loop-stripe : goal.invariant-loop-stripe
invariant-loop-stripe l = l.least ≡ fold min (get_or l.stripes 0 (record { applied = 0; published = 0 })).applied (map (λ (s : StripeLsns). s.applied) (take l.stripe-index l.stripes))
