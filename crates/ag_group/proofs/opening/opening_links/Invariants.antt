use Rattle.std.proofs.Common.{◌≡◌, replicate, []}
use Rattle.ag_group.proofs.opening.opening_links.Given as goal

abbrev pub invariant-loop : goal.invariant-loop
invariant-loop l = l.links.items ≡ replicate l.counter (replicate l.count [])
