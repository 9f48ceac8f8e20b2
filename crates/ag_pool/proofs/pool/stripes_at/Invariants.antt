use Rattle.std.proofs.Common.{◌≡◌, replicate}
use Rattle.ag_pool.proofs.pool.stripes_at.Given as goal

abbrev pub invariant-loop : goal.invariant-loop
invariant-loop l = l.stripes.items ≡ replicate l.counter (record { applied = l.lsn; published = l.lsn })
