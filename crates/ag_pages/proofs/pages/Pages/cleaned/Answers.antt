use Rattle.std.proofs.Common.{◌%◌, lit<, ap, ◌∙◌}
use Rattle.std.proofs.Math.Nat.{mod-lt}
use Rattle.ag_pages.specs.Views.{PagesView, is_page}
use Rattle.ag_pages.proofs.Seats.{Swap, swap-places, swap-applied-same}
use Rattle.ag_pages.proofs.Swaps.{own-page}
use Rattle.ag_pages.proofs.Redone.{cleaned-swap}
use Rattle.ag_pages.proofs.pages.Pages.cleaned.Goals as goal

pub take_out-stripe-requires-clause-there : goal.take_out-stripe-requires-clause-there
take_out-stripe-requires-clause-there c = let x = c.self.invariant.each (c.args.page % 16) (mod-lt c.args.page {m = 16} (lit< tt)) in (x.0, x.1)

pub cleaned-requires : goal.cleaned-requires
cleaned-requires c =
    own-page c.self.inside.count c.self.inside.places.items c.take_out-stripe.result c.args.page c.self.invariant (ap (λ (v : PagesView). is_page v c.args.page) c.self.view_is ∙ c.requires) c.take_out-stripe.ensures.at

pub invariant_of-self : goal.invariant_of-self
invariant_of-self c =
    let n = c.args.page % 16 in
    let before = c.take_out-stripe.result in
    let after = c.cleaned.new.self in
    let old = c.self.inside.places.items in
    let new = c.put_in.new.places.items in
    let did = c.cleaned.ensures in
    let h : Swap c.self.inside.count n old new before after = cleaned-swap c.self.inside.count n c.args.page old c.take_out-stripe.new.places.items new before after (mod-lt c.args.page {m = 16} (lit< tt)) c.self.invariant c.take_out-stripe.ensures.at c.take_out-stripe.ensures.places c.put_in.ensures did.same did.values did.dirty in
    swap-places c.self.inside.count n old new before after h

pub returns-clause-applied : goal.returns-clause-applied
returns-clause-applied c =
    let n = c.args.page % 16 in
    let before = c.take_out-stripe.result in
    let after = c.cleaned.new.self in
    let old = c.self.inside.places.items in
    let new = c.put_in.new.places.items in
    let did = c.cleaned.ensures in
    let h : Swap c.self.inside.count n old new before after = cleaned-swap c.self.inside.count n c.args.page old c.take_out-stripe.new.places.items new before after (mod-lt c.args.page {m = 16} (lit< tt)) c.self.invariant c.take_out-stripe.ensures.at c.take_out-stripe.ensures.places c.put_in.ensures did.same did.values did.dirty in
    swap-applied-same c.self.inside.count n old new before after h did.applied ∙ ap (λ (v : PagesView). v.applied) c.self.view_is
