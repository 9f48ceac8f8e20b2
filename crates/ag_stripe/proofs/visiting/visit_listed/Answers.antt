use Rattle.std.proofs.Common.{◌||◌, ◌<◌, ◌+◌, length, get_or, take, sym, subst, arith, eqb}
use Rattle.std.proofs.lemmas.List.Folds.{list_any_more}
use Rattle.ag_model.specs.Rows.{contains}
use Rattle.ag_stripe.specs.Known.{Told}
use Rattle.ag_stripe.specs.Reading.{OnlyReads}
use Rattle.ag_stripe.specs.Visits.{Visits}
use Rattle.ag_stripe.proofs.Readings.{reads-then, was_read-then}
use Rattle.ag_stripe.proofs.Visits.{visits-as, visits-then}
use Rattle.ag_stripe.proofs.visiting.visit_listed.Goals as goal

pub returns-in_err-least-clause-home : goal.returns-in_err-least-clause-home
returns-in_err-least-clause-home g c =
    let h = g.H.PageHome in
    was_read-then h.has_page h.told h.faults h.refusals h.leaves g.met.H.PageHome.leaves_both c.args.home.now c.loop-page.home c.visit.new.home c.loop-page.invariant.home c.visit.ensures.home

pub returns-in_err-least-clause-reads : goal.returns-in_err-least-clause-reads
returns-in_err-least-clause-reads g c =
    let inv = c.loop-page.invariant in
    let old = c.loop-page.table in
    let new = c.visit.new.table in
    reads-then (g.H.PageHome.told c.args.home.now) c.args.table.now old new inv.visits.reads (subst (λ (t : Told). OnlyReads t old new) inv.home.tells c.visit.ensures.reads)

pub loop-page-preserved : goal.loop-page-preserved
loop-page-preserved g c =
    let h = g.H.PageHome in
    let inv = c.loop-page.invariant in
    let i = c.loop-page.page-index in
    let pages = c.args.pages.now in
    let told = h.told c.args.home.now in
    let start = c.args.table.now in
    let old = c.loop-page.table in
    let new = c.visit.new.table in
    let least = c.in_ok-least.least in
    let lt : i < length pages = omega arith in
    let one = subst (λ (t : Told). Visits t old new c.loop-page.least least (λ q. eqb q (get_or pages i 0))) inv.home.tells c.in_ok-least.ensures.visits in
    record {
      visits = visits-as told start new c.args.bad least (λ q. contains q (take i pages) || eqb q (get_or pages i 0)) (λ q. contains q (take (i + 1) pages)) (λ q own. sym (list_any_more (eqb q) pages i 0 lt))
          (visits-then told start old new c.args.bad c.loop-page.least least (λ q. contains q (take i pages)) (λ q. eqb q (get_or pages i 0)) inv.visits one);
      home = was_read-then h.has_page h.told h.faults h.refusals h.leaves g.met.H.PageHome.leaves_both c.args.home.now c.loop-page.home c.visit.new.home inv.home c.visit.ensures.home;
    }
