use Rattle.std.proofs.Common.{◌%◌, ◌<◌, ℕ, List, length, lit<, refl, sym, ap, ◌∙◌, subst, arith, IfOk, IfErr}
use Rattle.std.specs.Prelude.{None}
use Rattle.std.proofs.lemmas.List.{length-set}
use Rattle.std.proofs.Math.Nat.{mod-lt}
use Rattle.ag_model.specs.Rows.{page_of, stripe_of}
use Rattle.ag_stripe.specs.Answers.{IsRow, IsRowFault}
use Rattle.ag_stripe.specs.Known.{Known, known}
use Rattle.ag_pages.specs.Views.{Place, told_by}
use Rattle.ag_pages.proofs.Seats.{Swap, swap-places}
use Rattle.ag_pages.proofs.Swaps.{key-at, key-own, key-pages, known-is, swap-reads}
use Rattle.ag_pages.proofs.Redone.{read-swap}
use Rattle.ag_pages.proofs.pages.Pages.row_at.Goals as goal

pub take_out-taken-requires-clause-there : goal.take_out-taken-requires-clause-there
take_out-taken-requires-clause-there g c = let x = c.self.invariant.each (c.page_of.result % 16) (mod-lt c.page_of.result {m = 16} (lit< tt)) in (x.0, x.1)

pub put_in-requires : goal.put_in-requires
put_in-requires g c =
    let e = c.self.invariant.sixteen in
    let small : c.page_of.result % 16 < 16 = mod-lt c.page_of.result {m = 16} (lit< tt) in
    let long = ap (λ (l : List Place). length l) c.take_out-taken.ensures.places ∙ length-set c.self.inside.places.items (c.page_of.result % 16) None in
    omega (arith, e, small, long)

pub row_at-back-requires-clause-own : goal.row_at-back-requires-clause-own
row_at-back-requires-clause-own g c =
    let count = c.self.inside.count in
    let places = c.self.inside.places.items in
    let s = c.take_out-taken.result in
    key-own count c.args.key places s c.self.invariant (key-at count c.args.key c.page_of.result places s c.page_of.ensures c.take_out-taken.ensures.at)

pub invariant_of-self : goal.invariant_of-self
invariant_of-self g c =
    let n = c.page_of.result % 16 in
    let before = c.take_out-taken.result in
    let after = c.row_at-back.result.0 in
    let old = c.self.inside.places.items in
    let new = c.put_in.new.places.items in
    let told = told_by g.D.Disk.keeps g.D.Disk.reads c.args.disk.now in
    let e = c.row_at-back.ensures in
    let h : Swap c.self.inside.count n old new before after = read-swap c.self.inside.count n old c.take_out-taken.new.places.items new before after told (mod-lt c.page_of.result {m = 16} (lit< tt)) c.self.invariant c.take_out-taken.ensures.at c.take_out-taken.ensures.places c.put_in.ensures e.reads in
    swap-places c.self.inside.count n old new before after h

pub returns : goal.returns
returns g c =
    let count = c.self.inside.count in
    let key = c.args.key in
    let page = page_of count key in
    let n = c.page_of.result % 16 in
    let before = c.take_out-taken.result in
    let after = c.row_at-back.result.0 in
    let old = c.self.inside.places.items in
    let new = c.put_in.new.places.items in
    let told = told_by g.D.Disk.keeps g.D.Disk.reads c.args.disk.now in
    let e = c.row_at-back.ensures in
    let h : Swap count n old new before after = read-swap count n old c.take_out-taken.new.places.items new before after told (mod-lt c.page_of.result {m = 16} (lit< tt)) c.self.invariant c.take_out-taken.ensures.at c.take_out-taken.ensures.places c.put_in.ensures e.reads in
    let at = key-at count key c.page_of.result old before c.page_of.ensures c.take_out-taken.ensures.at in
    let pages = key-pages count key old before c.self.invariant at in
    let k = known-is told count (stripe_of page) old before page at refl in
    let result = c.row_at-back.result.1 in
    rw (← c.self.view_is) (record {
      row = subst (λ (x : Known). IfOk result (IsRow key c.args.snapshot x)) (sym k) (subst (λ (m : ℕ). IfOk result (IsRow key c.args.snapshot (known told before.table (page_of m key)))) pages e.row);
      fault = subst (λ (x : Known). IfErr result (IsRowFault page c.args.snapshot x)) (sym k) (subst (λ (m : ℕ). IfErr result (IsRowFault (page_of m key) c.args.snapshot (known told before.table (page_of m key)))) pages e.fault);
      reads = swap-reads count n old new before after h told e.reads e.applied;
      disk = e.disk;
      later = e.later;
      cause = e.cause;
    })
