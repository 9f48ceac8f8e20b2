use Rattle.std.proofs.Common.{◌≡◌, ◌∙◌, ◌<◌, ap, sym, subst, map, set, arith, List, length}
use Rattle.std.proofs.lemmas.List.{length-map}
use Rattle.ag_rules.specs.Replica.{Stripe}
use Rattle.ag_pool.specs.Frames.{stripe_of}
use Rattle.ag_pool.specs.View.{PoolView, with_stripes, stripe_at}
use Rattle.ag_pool.proofs.Pools.{publish-seen}
use Rattle.ag_pool.proofs.pool.Pool.publish.Goals as goal

pub returns : goal.returns
returns c =
    let xs = c.self.inside.stripes.items in
    let k = c.from.result in
    let r = c.index_mut-stripe.result.now in
    let x = c.args.x in
    let long : length xs ≡ 16 = sym (length-map xs stripe_of) ∙ c.self.invariant.stripes in
    let lt : k < length xs = omega (arith, long, c.from.ensures, c.requires) in
    subst (λ (v : PoolView). record { pages = c.self.inside.pages; frames = c.self.inside.frames.items; stripes = map stripe_of (set xs k (record { applied = r.applied; published = r.applied })) }
    ≡ with_stripes v (set v.stripes x (record { applied = (stripe_at v x).applied; published = (stripe_at v x).applied }))) c.self.view_is
    (ap {B = PoolView} (λ (l : List Stripe). record { pages = c.self.inside.pages; frames = c.self.inside.frames.items; stripes = l }) (publish-seen xs k x r c.from.ensures lt c.index_mut-stripe.ensures.value))
