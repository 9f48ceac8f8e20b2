use Rattle.std.proofs.Common.{◌≡◌, ◌+◌, ◌/◌, ℕ, IsTrue, List, [], ◌∷◌, length, length-append, sym, ap, ◌∙◌, subst, arith}
use Rattle.std.specs.List.{AllByRecursion}
use Rattle.ag_model.specs.declared.answer.SuspectRow.{SuspectRow}
use Rattle.ag_lists.proofs.Each.{all_push}
use Rattle.ag_outside.specs.Disks.{Image, or_zeros}
use Rattle.ag_suspect.specs.Rows.{IsRow}
use Rattle.ag_suspect.proofs.Runs.{not_read, then_reads, reads_then_fails, handed_on}
use Rattle.ag_suspect.proofs.Scanning.{slot-read, rest-more, rest-stop, rest-all}
use Rattle.ag_suspect.proofs.reading.read_rows.Goals as goal

pub loop-place-init : goal.loop-place-init
loop-place-init g c =
    let d = g.D.Disk in
    let none = c.new-rows.ensures.items in
    record {
      rest = λ _. rest-all (d.reads c.args.disk.now) c.new-rows.result.items none;
      buffer = λ _ some. absurd (omega arith);
      fit = subst (λ (rows : List SuspectRow). AllByRecursion IsRow rows) (sym none) tt;
      long = ap length none;
      stays = not_read d.size d.keeps d.reads d.may_hold d.moment d.left_since d.faults d.did c.args.disk.now (g.met.D.Disk.only_now c.args.disk.now);
    }

pub loop-place-preserved : goal.loop-place-preserved
loop-place-preserved g c =
    let d = g.D.Disk in
    let inv = c.loop-place.invariant in
    let image = d.reads c.args.disk.now in
    let i = c.loop-place.place in
    let row = c.row_at-row.result in
    let read = c.in_ok-refill.ensures in
    let sector = λ (k : IsTrue (d.keeps c.args.disk.now)). ap (λ (x : Image). or_zeros (x (1 + i / 16))) (sym inv.stays.reads_same) ∙ read.sector (subst IsTrue (sym inv.stays.keeps_same) k) in
    record {
      rest = λ k. rest-more image i c.loop-place.rows.items c.push.new.self.items row (omega arith) (inv.rest k) (slot-read image i c.refill.new.sector row (sector k) c.row_at-row.ensures) c.if-row-eq0.false c.in_ok-push.ensures.items;
      buffer = λ k some. let same : (i + 1) / 16 ≡ i / 16 = omega arith in ap (λ (j : ℕ). or_zeros (image (1 + j))) same ∙ sector k;
      fit = subst (λ (rows : List SuspectRow). AllByRecursion IsRow rows) (sym c.in_ok-push.ensures.items)
          (all_push IsRow c.loop-place.rows.items row inv.fit (record { some = omega (arith, c.if-row-eq0.false); page = omega arith; kind = omega arith; count = omega arith }));
      long = ap length c.in_ok-push.ensures.items ∙ omega (arith, inv.long, length-append c.loop-place.rows.items (row ∷ []));
      stays = then_reads d.size d.keeps d.reads d.may_hold d.moment d.left_since d.faults d.did c.args.disk.now c.loop-place.disk c.refill.new.disk inv.stays read.stays;
    }

pub returns-in_err-refill-clause-stays : goal.returns-in_err-refill-clause-stays
returns-in_err-refill-clause-stays g c =
    let d = g.D.Disk in
    then_reads d.size d.keeps d.reads d.may_hold d.moment d.left_since d.faults d.did c.args.disk.now c.loop-place.disk c.refill.new.disk c.loop-place.invariant.stays c.refill.ensures.stays

pub returns-in_err-refill-clause-broken : goal.returns-in_err-refill-clause-broken
returns-in_err-refill-clause-broken g c = λ failed.
    reads_then_fails g.D.Disk.did c.args.disk.now c.loop-place.disk c.refill.new.disk c.loop-place.invariant.stays.calls
    (c.refill.ensures.broken (handed_on c.from_residual.result c.refill.result c.in_err-refill.field-0.0 _ c.from_residual.ensures.1 failed c.in_err-refill.was))

pub returns-then-row-eq0-clause-rows : goal.returns-then-row-eq0-clause-rows
returns-then-row-eq0-clause-rows g c = λ k.
    let d = g.D.Disk in
    let inv = c.loop-place.invariant in
    let image = d.reads c.args.disk.now in
    let i = c.loop-place.place in
    let sector = ap (λ (x : Image). or_zeros (x (1 + i / 16))) (sym inv.stays.reads_same) ∙ c.in_ok-refill.ensures.sector (subst IsTrue (sym inv.stays.keeps_same) k) in
    rest-stop image i c.loop-place.rows.items c.row_at-row.result (omega arith) (inv.rest k) (slot-read image i c.refill.new.sector c.row_at-row.result sector c.row_at-row.ensures) c.if-row-eq0.true

pub returns-then-row-eq0-clause-stays : goal.returns-then-row-eq0-clause-stays
returns-then-row-eq0-clause-stays g c =
    let d = g.D.Disk in
    then_reads d.size d.keeps d.reads d.may_hold d.moment d.left_since d.faults d.did c.args.disk.now c.loop-place.disk c.refill.new.disk c.loop-place.invariant.stays c.in_ok-refill.ensures.stays

pub returns-in_err-push-clause-stays : goal.returns-in_err-push-clause-stays
returns-in_err-push-clause-stays g c =
    let d = g.D.Disk in
    then_reads d.size d.keeps d.reads d.may_hold d.moment d.left_since d.faults d.did c.args.disk.now c.loop-place.disk c.refill.new.disk c.loop-place.invariant.stays c.in_ok-refill.ensures.stays
