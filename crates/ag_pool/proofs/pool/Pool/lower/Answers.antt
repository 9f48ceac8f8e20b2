use Rattle.std.proofs.Common.{◌≡◌, ◌∙◌, ap, subst, map, List}
use Rattle.ag_rules.specs.Replica.{Stripe}
use Rattle.ag_rules.specs.ResumeMessage.{lowered}
use Rattle.ag_pool.specs.Frames.{stripe_of}
use Rattle.ag_pool.specs.View.{PoolView, with_stripes}
use Rattle.ag_pool.proofs.Pools.{lowered-seen}
use Rattle.ag_pool.proofs.pool.Pool.lower.Goals as goal

pub returns : goal.returns
returns c =
    subst (λ (v : PoolView). record { pages = c.self.inside.pages; frames = c.self.inside.frames.items; stripes = map stripe_of c.lower_stripes.new.stripes.items } ≡ with_stripes v (map (lowered c.args.lsn) v.stripes)) c.self.view_is (ap {B = PoolView} (λ (l : List Stripe). record { pages = c.self.inside.pages; frames = c.self.inside.frames.items; stripes = l }) (ap (map stripe_of) c.lower_stripes.ensures ∙ lowered-seen c.args.lsn c.self.inside.stripes.items))
