use Rattle.std.proofs.Common.{◌||◌, ◌<◌, ◌+◌, length, take, subst, arith}
use Rattle.std.specs.Prelude.{None}
use Rattle.ag_model.specs.Rows.{touches}
use Rattle.ag_stripe.specs.Known.{Told}
use Rattle.ag_stripe.specs.Redo.{is_touched}
use Rattle.ag_stripe.specs.Reading.{OnlyReads}
use Rattle.ag_stripe.specs.Visits.{Visits}
use Rattle.ag_stripe.proofs.Readings.{reads-then, was_read-then}
use Rattle.ag_stripe.proofs.Visits.{touched-more, visits-as, visits-then}
use Rattle.ag_stripe.proofs.visiting.visit_all.Goals as goal

pub returns-in_err-least-clause-home : goal.returns-in_err-least-clause-home
returns-in_err-least-clause-home g c =
    let h = g.H.PageHome in
    was_read-then h.has_page h.told h.faults h.refusals h.leaves g.met.H.PageHome.leaves_both c.args.home.now c.loop-entry.home c.visit_touched.new.home c.loop-entry.invariant.home c.visit_touched.ensures.home

pub returns-in_err-least-clause-reads : goal.returns-in_err-least-clause-reads
returns-in_err-least-clause-reads g c =
    let inv = c.loop-entry.invariant in
    let old = c.loop-entry.table in
    let new = c.visit_touched.new.table in
    reads-then (g.H.PageHome.told c.args.home.now) c.args.table.now old new inv.visits.reads (subst (λ (t : Told). OnlyReads t old new) inv.home.tells c.visit_touched.ensures.reads)

pub loop-entry-preserved : goal.loop-entry-preserved
loop-entry-preserved g c =
    let h = g.H.PageHome in
    let inv = c.loop-entry.invariant in
    let i = c.loop-entry.entry-index in
    let records = c.args.records.now in
    let r = c.entry-item.result in
    let told = h.told c.args.home.now in
    let start = c.args.table.now in
    let old = c.loop-entry.table in
    let new = c.visit_touched.new.table in
    let least = c.in_ok-least.least in
    let lt : i < length records = omega arith in
    let one = subst (λ (t : Told). Visits t old new c.loop-entry.least least (λ q. touches old.pages q r)) inv.home.tells c.in_ok-least.ensures.visits in
    record {
      visits = visits-as told start new None least (λ q. is_touched start (take i records) q || touches old.pages q r) (is_touched start (take (i + 1) records)) (λ q own. touched-more start old records r i q inv.visits.reads.same lt c.entry-item.is own)
          (visits-then told start old new None c.loop-entry.least least (is_touched start (take i records)) (λ q. touches old.pages q r) inv.visits one);
      home = was_read-then h.has_page h.told h.faults h.refusals h.leaves g.met.H.PageHome.leaves_both c.args.home.now c.loop-entry.home c.visit_touched.new.home inv.home c.visit_touched.ensures.home;
    }
