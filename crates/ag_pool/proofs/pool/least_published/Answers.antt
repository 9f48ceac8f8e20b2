use Rattle.std.proofs.Common.{◌≤◌, length, arith}
use Rattle.ag_pool.specs.declared.frame.StripeLsns.{StripeLsns}
use Rattle.ag_pool.proofs.Pools.{least-all}
use Rattle.ag_pool.proofs.pool.least_published.Goals as goal

pub returns : goal.returns
returns c =
    let le : length c.args.stripes.now ≤ c.loop-stripe.stripe-index = omega (arith, c.loop-stripe-test.false) in
    least-all (λ (s : StripeLsns). s.published) c.args.stripes.now c.loop-stripe.stripe-index c.loop-stripe.least (record { applied = 0; published = 0 }) c.requires le c.loop-stripe.invariant
