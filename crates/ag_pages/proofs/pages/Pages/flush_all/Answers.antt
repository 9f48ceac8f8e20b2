use Rattle.std.proofs.Common.{◌+◌, ◌<◌, ◌≤◌, length, Err, leb, ltb, refl, sym, ap, ◌∙◌, arith}
use Rattle.std.proofs.lemmas.Bool.{and_from, le-leb, lt-ltb}
use Rattle.std.proofs.lemmas.Result.{err_from_is_err_and}
use Rattle.ag_pages.specs.declared.flush.FlushFault.{FlushFault}
use Rattle.ag_pages.specs.Views.{slot}
use Rattle.ag_pages.proofs.Flushing.{flushed_none}
use Rattle.ag_pages.proofs.Held.{view_held}
use Rattle.ag_pages.proofs.Rounds.{few_far, can_write, way_on, way_breaks, way_ends, end_breaks}
use Rattle.ag_pages.proofs.pages.Pages.flush_all.Goals as goal

pub loop-place-init : goal.loop-place-init
loop-place-init g c = let d = g.D.Disk in record {
  way = record { flushed = flushed_none d.size d.keeps d.reads d.may_hold d.did c.args.disk.now (slot c.args.self.now); waits = c.empty-batch.ensures };
  count = refl;
  applied = refl;
  kept = λ page v is. is;
  later = omega arith;
  size = refl;
  keeps = refl;
}

pub visit-requires-clause-page : goal.visit-requires-clause-page
visit-requires-clause-page g c =
    let n = c.loop-place.place in
    let low : 16 ≤ 16 + n = omega arith in
    let high : 16 + n < 16 + c.loop-place.self.count = omega (arith, c.loop-place.invariant.count, c.count-pages.ensures.answer) in
    and_from (leb 16 (16 + n)) (ltb (16 + n) (16 + c.loop-place.self.count)) (le-leb 16 (16 + n) low) (lt-ltb (16 + n) (16 + c.loop-place.self.count) high)

pub visit-requires-clause-few : goal.visit-requires-clause-few
visit-requires-clause-few g c = let few = few_far c.args.self.now c.loop-place.place in omega (arith, few, ap length c.loop-place.invariant.way.waits)

pub visit-requires-clause-full : goal.visit-requires-clause-full
visit-requires-clause-full g c = let d = g.D.Disk in
    can_write c.args.self.now d.size d.keeps d.reads d.may_hold d.did c.args.disk.now (view_held c.args.self.now c.self.inside.count c.self.inside.places.items c.self.view_is c.self.invariant) (omega (arith, c.count-pages.ensures.answer, c.count-pages.ensures.high))
    c.loop-place.place c.loop-place.disk c.loop-place.self c.loop-place.batch c.loop-place.invariant.way (omega (arith, c.count-pages.ensures.answer)) c.loop-place.invariant.count

pub loop-place-preserved : goal.loop-place-preserved
loop-place-preserved g c = let d = g.D.Disk in
    let inv = c.loop-place.invariant in
    let did = c.visit.ensures in
    let ok = c.in_ok-visit.ensures in
    record {
      way = way_on c.args.self.now d.size d.keeps d.reads d.may_hold d.did c.args.disk.now (view_held c.args.self.now c.self.inside.count c.self.inside.places.items c.self.view_is c.self.invariant) (omega (arith, c.count-pages.ensures.answer, c.count-pages.ensures.high))
          c.loop-place.place c.loop-place.disk c.loop-place.self c.loop-place.batch inv.way (omega (arith, c.count-pages.ensures.answer)) c.visit.new.disk c.visit.new.self c.visit.new.batch ok.flushed ok.batch;
      count = did.count ∙ inv.count;
      applied = did.applied ∙ inv.applied;
      kept = λ page v is. did.kept page v (inv.kept page v is);
      later = omega (arith, inv.later, did.later);
      size = did.size ∙ inv.size;
      keeps = did.keeps ∙ inv.keeps;
    }

pub returns-in_err-visit-clause-broken : goal.returns-in_err-visit-clause-broken
returns-in_err-visit-clause-broken g c = let d = g.D.Disk in λ is.
    let p = err_from_is_err_and c.from_residual.result c.from_residual.ensures.1 in
    way_breaks c.args.self.now d.size d.keeps d.reads d.may_hold d.did c.args.disk.now (view_held c.args.self.now c.self.inside.count c.self.inside.places.items c.self.view_is c.self.invariant) (omega (arith, c.count-pages.ensures.answer, c.count-pages.ensures.high))
    c.loop-place.place c.loop-place.disk c.loop-place.self c.loop-place.batch c.loop-place.invariant.way (omega (arith, c.count-pages.ensures.answer)) c.visit.new.disk c.visit.new.self c.visit.new.batch (c.visit.ensures.broken (c.in_err-visit.was ∙ ap (λ (e : FlushFault). Err e) (sym p.2) ∙ sym p.1 ∙ is))

pub finish-requires-clause-pages : goal.finish-requires-clause-pages
finish-requires-clause-pages g c = let d = g.D.Disk in
    can_write c.args.self.now d.size d.keeps d.reads d.may_hold d.did c.args.disk.now (view_held c.args.self.now c.self.inside.count c.self.inside.places.items c.self.view_is c.self.invariant) (omega (arith, c.count-pages.ensures.answer, c.count-pages.ensures.high))
    c.loop-place.place c.loop-place.disk c.loop-place.self c.loop-place.batch c.loop-place.invariant.way (omega (arith, c.count-pages.ensures.answer)) c.loop-place.invariant.count

pub returns-clause-flushed : goal.returns-clause-flushed
returns-clause-flushed g c = let d = g.D.Disk in
    way_ends c.args.self.now d.size d.keeps d.reads d.may_hold d.did c.args.disk.now (view_held c.args.self.now c.self.inside.count c.self.inside.places.items c.self.view_is c.self.invariant) (omega (arith, c.count-pages.ensures.answer, c.count-pages.ensures.high))
    c.loop-place.place c.loop-place.disk c.loop-place.self c.loop-place.batch c.loop-place.invariant.way (omega (arith, c.count-pages.ensures.answer)) c.finish.new.disk c.finish.new.self c.in_ok-finish.ensures.flushed

pub returns-in_err-finish-clause-broken : goal.returns-in_err-finish-clause-broken
returns-in_err-finish-clause-broken g c = let d = g.D.Disk in λ is.
    let p = err_from_is_err_and c.from_residual-in_err-finish.result c.from_residual-in_err-finish.ensures.1 in
    end_breaks c.args.self.now d.size d.keeps d.reads d.may_hold d.did c.args.disk.now (view_held c.args.self.now c.self.inside.count c.self.inside.places.items c.self.view_is c.self.invariant) (omega (arith, c.count-pages.ensures.answer, c.count-pages.ensures.high))
    c.loop-place.place c.loop-place.disk c.loop-place.self c.loop-place.batch c.loop-place.invariant.way (omega (arith, c.count-pages.ensures.answer)) c.finish.new.disk c.finish.new.self (c.finish.ensures.broken (c.in_err-finish.was ∙ ap (λ (e : FlushFault). Err e) (sym p.2) ∙ sym p.1 ∙ is))
