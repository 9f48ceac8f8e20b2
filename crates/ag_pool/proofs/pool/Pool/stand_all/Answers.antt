use Rattle.std.proofs.Common.{◌≡◌, ◌∙◌, ap, sym, subst, map, List, length}
use Rattle.std.proofs.lemmas.List.{length-map}
use Rattle.ag_rules.specs.Replica.{Stripe, all_at}
use Rattle.ag_pool.specs.Frames.{stripe_of}
use Rattle.ag_pool.specs.View.{PoolView, with_stripes}
use Rattle.ag_pool.proofs.Pools.{stand-seen}
use Rattle.ag_pool.proofs.pool.Pool.stand_all.Goals as goal

pub returns : goal.returns
returns c =
    let long : length c.self.inside.stripes.items ≡ 16 = sym (length-map c.self.inside.stripes.items stripe_of) ∙ c.self.invariant.stripes in
    subst (λ (v : PoolView). record { pages = c.self.inside.pages; frames = c.self.inside.frames.items; stripes = map stripe_of c.stand_stripes.new.stripes.items } ≡ with_stripes v (all_at c.args.lsn)) c.self.view_is (ap {B = PoolView} (λ (l : List Stripe). record { pages = c.self.inside.pages; frames = c.self.inside.frames.items; stripes = l }) (ap (map stripe_of) c.stand_stripes.ensures ∙ stand-seen c.args.lsn 16 c.self.inside.stripes.items long))
