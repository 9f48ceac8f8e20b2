use Rattle.std.proofs.Common.{◌<◌, List, length, ap, ◌∙◌, arith}
use Rattle.std.specs.Prelude.{None}
use Rattle.std.proofs.lemmas.List.{length-set}
use Rattle.ag_pages.specs.Views.{Place, pages_view, told_by}
use Rattle.ag_pages.proofs.Seats.{Swap, swap-places}
use Rattle.ag_pages.proofs.Redone.{RedoneStripe, RedonePages, redone-pages, redone-swap}
use Rattle.ag_pages.proofs.pages.Pages.redo.Goals as goal

pub take_out-taken-requires-clause-there : goal.take_out-taken-requires-clause-there
take_out-taken-requires-clause-there g c = let x = c.self.invariant.each c.args.stripe c.requires.stripe in (x.0, x.1)

pub put_in-requires : goal.put_in-requires
put_in-requires g c =
    let e = c.self.invariant.sixteen in
    let small : c.args.stripe < 16 = c.requires.stripe in
    let long = ap (λ (l : List Place). length l) c.take_out-taken.ensures.places ∙ length-set c.self.inside.places.items c.args.stripe None in
    omega (arith, e, small, long)

pub invariant_of-self : goal.invariant_of-self
invariant_of-self g c =
    let n = c.args.stripe in
    let before = c.take_out-taken.result in
    let after = c.redo-back.result.0 in
    let old = c.self.inside.places.items in
    let new = c.put_in.new.places.items in
    let told = told_by g.D.Disk.keeps g.D.Disk.reads c.args.disk.now in
    let records = c.args.records.now in
    let result = c.redo-back.result.1 in
    let e = c.redo-back.ensures in
    let r : RedoneStripe told records before after result = record { values = e.values; others = e.others; dirty = e.dirty; applied = e.applied; same = e.same; sound = e.sound; fault = e.fault; unchanged = e.unchanged; kept = e.kept } in
    let h : Swap c.self.inside.count n old new before after = redone-swap c.self.inside.count n old c.take_out-taken.new.places.items new before after told records result c.requires.stripe c.self.invariant c.take_out-taken.ensures.at c.take_out-taken.ensures.places c.put_in.ensures r in
    swap-places c.self.inside.count n old new before after h

pub returns : goal.returns
returns g c =
    let n = c.args.stripe in
    let before = c.take_out-taken.result in
    let after = c.redo-back.result.0 in
    let old = c.self.inside.places.items in
    let new = c.put_in.new.places.items in
    let told = told_by g.D.Disk.keeps g.D.Disk.reads c.args.disk.now in
    let records = c.args.records.now in
    let result = c.redo-back.result.1 in
    let e = c.redo-back.ensures in
    let r : RedoneStripe told records before after result = record { values = e.values; others = e.others; dirty = e.dirty; applied = e.applied; same = e.same; sound = e.sound; fault = e.fault; unchanged = e.unchanged; kept = e.kept } in
    let h : Swap c.self.inside.count n old new before after = redone-swap c.self.inside.count n old c.take_out-taken.new.places.items new before after told records result c.requires.stripe c.self.invariant c.take_out-taken.ensures.at c.take_out-taken.ensures.places c.put_in.ensures r in
    let p : RedonePages told records n (pages_view c.self.inside.count old) (pages_view c.self.inside.count new) result = redone-pages c.self.inside.count n old new before after h told records result r in
    rw (← c.self.view_is) (record {
      values = p.values;
      applied = p.applied;
      dirty = p.dirty;
      untouched = p.untouched;
      sound = p.sound;
      fault = p.fault;
      unchanged = p.unchanged;
      count = p.count;
      others = p.others;
      others_applied = p.others_applied;
      disk = e.disk;
      later = e.later;
      cause = e.cause;
    })
