use Rattle.std.proofs.Common.{◌≡◌, min, ap, sym, ◌∙◌, arith, rules}
use Rattle.std.proofs.lemmas.List.{take_all}
use Rattle.ag_rules.specs.Replica.{least}
use Rattle.ag_pages.proofs.Least.{least-more}
use Rattle.ag_pages.proofs.Seats.{applied-long}
use Rattle.ag_pages.proofs.pages.Pages.least_applied.Goals as goal

pub loop-stripe-preserved : goal.loop-stripe-preserved
loop-stripe-preserved c =
    let v = c.args.self.now in
    let long = applied-long v c.self.inside.count c.self.inside.places.items c.self.view_is c.self.invariant in
    let less : c.min-least.result ≡ min c.loop-stripe.least c.applied.result = search rules in
    less ∙ (λ i. min (c.loop-stripe.invariant i) (c.applied.ensures i)) ∙ sym (least-more v.applied c.loop-stripe.stripe (omega arith) (omega (arith, long)))

pub returns : goal.returns
returns c =
    let v = c.args.self.now in
    let long = applied-long v c.self.inside.count c.self.inside.places.items c.self.view_is c.self.invariant in
    c.loop-stripe.invariant ∙ ap least (take_all c.loop-stripe.stripe v.applied (omega (arith, long)))
