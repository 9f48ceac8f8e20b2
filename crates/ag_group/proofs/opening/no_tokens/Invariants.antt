use Rattle.std.proofs.Common.{◌≡◌, replicate}
use Rattle.std.specs.Prelude.{None}
use Rattle.ag_group.proofs.opening.no_tokens.Given as goal

abbrev pub invariant-loop : goal.invariant-loop
invariant-loop l = l.tokens.items ≡ replicate l.counter None
