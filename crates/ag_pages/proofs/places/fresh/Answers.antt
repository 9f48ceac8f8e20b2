use Rattle.ag_pages.proofs.Fresh.{fresh-more}
use Rattle.ag_pages.proofs.places.fresh.Goals as goal

pub loop-stripe-preserved : goal.loop-stripe-preserved
loop-stripe-preserved c =
    let made = c.in_ok-fresh.ensures in
    fresh-more c.args.pages c.args.applied c.loop-stripe.stripe c.loop-stripe.places.items c.push.new.self.items c.in_ok-fresh.fresh c.loop-stripe.invariant c.in_ok-push.ensures.items made.number made.pages made.applied made.empty
