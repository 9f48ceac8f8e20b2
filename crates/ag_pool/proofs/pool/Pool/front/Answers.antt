use Rattle.std.proofs.Common.{◌∙◌, ap, map, List}
use Rattle.ag_rules.specs.Replica.{Stripe, least}
use Rattle.ag_pool.specs.declared.frame.StripeLsns.{StripeLsns}
use Rattle.ag_pool.specs.View.{PoolView}
use Rattle.ag_pool.proofs.Pools.{published-seen}
use Rattle.ag_pool.proofs.pool.Pool.front.Goals as goal

pub returns : goal.returns
returns c =
    c.least_published.ensures ∙ ap (λ (l : List StripeLsns). least (map (λ (s : StripeLsns). s.published) l)) c.as_slice.ensures.value
    ∙ ap least (published-seen c.self.inside.stripes.items) ∙ ap (λ (v : PoolView). least (map (λ (s : Stripe). s.published) v.stripes)) c.self.view_is
