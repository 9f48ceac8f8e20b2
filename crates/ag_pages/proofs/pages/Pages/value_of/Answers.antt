use Rattle.std.proofs.Common.{◌%◌, ◌<◌, List, length, lit<, refl, sym, ap, ◌∙◌, subst, arith, IfOk, IfErr}
use Rattle.std.specs.Prelude.{None}
use Rattle.std.proofs.lemmas.List.{length-set}
use Rattle.std.proofs.Math.Nat.{mod-lt}
use Rattle.ag_stripe.specs.Known.{Known, Says}
use Rattle.ag_stripe.specs.Known.Known.{Value}
use Rattle.ag_stripe.specs.Reading.{IsFaultOf}
use Rattle.ag_pages.specs.Views.{Place, PagesView, is_page, told_by}
use Rattle.ag_pages.proofs.Seats.{Swap, swap-places}
use Rattle.ag_pages.proofs.Swaps.{own-page, known-is, swap-reads}
use Rattle.ag_pages.proofs.Redone.{read-swap}
use Rattle.ag_pages.proofs.pages.Pages.value_of.Goals as goal

pub take_out-taken-requires-clause-there : goal.take_out-taken-requires-clause-there
take_out-taken-requires-clause-there g c = let x = c.self.invariant.each (c.args.page % 16) (mod-lt c.args.page {m = 16} (lit< tt)) in (x.0, x.1)

pub put_in-requires : goal.put_in-requires
put_in-requires g c =
    let e = c.self.invariant.sixteen in
    let small : (c.args.page % 16) < 16 = mod-lt c.args.page {m = 16} (lit< tt) in
    let long = ap (λ (l : List Place). length l) c.take_out-taken.ensures.places ∙ length-set c.self.inside.places.items (c.args.page % 16) None in
    omega (arith, e, small, long)

pub value_of-back-requires-clause-own : goal.value_of-back-requires-clause-own
value_of-back-requires-clause-own g c = own-page c.self.inside.count c.self.inside.places.items c.take_out-taken.result c.args.page c.self.invariant (ap (λ (v : PagesView). is_page v c.args.page) c.self.view_is ∙ c.requires.page) c.take_out-taken.ensures.at

pub invariant_of-self : goal.invariant_of-self
invariant_of-self g c =
    let n = (c.args.page % 16) in
    let before = c.take_out-taken.result in
    let after = c.value_of-back.result.0 in
    let old = c.self.inside.places.items in
    let new = c.put_in.new.places.items in
    let told = told_by g.D.Disk.keeps g.D.Disk.reads c.args.disk.now in
    let e = c.value_of-back.ensures in
    let h : Swap c.self.inside.count n old new before after = read-swap c.self.inside.count n old c.take_out-taken.new.places.items new before after told (mod-lt c.args.page {m = 16} (lit< tt)) c.self.invariant c.take_out-taken.ensures.at c.take_out-taken.ensures.places c.put_in.ensures e.reads in
    swap-places c.self.inside.count n old new before after h

pub returns : goal.returns
returns g c =
    let n = (c.args.page % 16) in
    let before = c.take_out-taken.result in
    let after = c.value_of-back.result.0 in
    let old = c.self.inside.places.items in
    let new = c.put_in.new.places.items in
    let told = told_by g.D.Disk.keeps g.D.Disk.reads c.args.disk.now in
    let e = c.value_of-back.ensures in
    let h : Swap c.self.inside.count n old new before after = read-swap c.self.inside.count n old c.take_out-taken.new.places.items new before after told (mod-lt c.args.page {m = 16} (lit< tt)) c.self.invariant c.take_out-taken.ensures.at c.take_out-taken.ensures.places c.put_in.ensures e.reads in
    let k = known-is told c.self.inside.count n old before c.args.page c.take_out-taken.ensures.at refl in
    let result = c.value_of-back.result.1 in
    rw (← c.self.view_is) (record {
      value = subst (λ (x : Known). IfOk result (λ v. Says x (Value v))) (sym k) e.value;
      fault = subst (λ (x : Known). IfErr result (IsFaultOf c.args.page x)) (sym k) e.fault;
      reads = swap-reads c.self.inside.count n old new before after h told e.reads e.applied;
      disk = e.disk;
      later = e.later;
      cause = e.cause;
    })
