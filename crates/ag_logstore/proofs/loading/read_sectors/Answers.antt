use Rattle.std.proofs.Common.{◌+◌, [], ◌∷◌, length, sym, ap, ◌∙◌, subst, arith, length-append, IsTrue}
use Rattle.std.proofs.lemmas.List.{append-nil}
use Rattle.ag_outside.specs.Disks.{Image, or_zeros}
use Rattle.ag_logstore.proofs.Runs.{not_read, then_reads, reads_then_fails, handed_on}
use Rattle.ag_logstore.proofs.Found.{pushed}
use Rattle.ag_logstore.proofs.loading.read_sectors.Goals as goal

pub loop-k-init : goal.loop-k-init
loop-k-init g c =
    let d = g.D.Disk in
    record {
      stays = not_read d.size d.keeps d.reads d.may_hold d.moment d.left_since d.faults d.did c.args.disk.now (g.met.D.Disk.only_now c.args.disk.now);
      sectors = λ _. sym (append-nil c.args.sectors.now.items);
      long = omega arith;
    }

pub loop-k-preserved : goal.loop-k-preserved
loop-k-preserved g c =
    let d = g.D.Disk in
    let read = c.in_ok-sector.ensures in
    let inv = c.loop-k.invariant in
    let image = d.reads c.args.disk.now in
    record {
      stays = then_reads d.size d.keeps d.reads d.may_hold d.moment d.left_since d.faults d.did c.args.disk.now c.loop-k.disk c.read_sector.new.disk inv.stays read.stays;
      sectors = λ k. c.in_ok-push.ensures.items ∙ pushed image c.args.first c.loop-k.k c.args.sectors.now.items c.loop-k.sectors.items c.in_ok-sector.sector (inv.sectors k)
          (ap (λ (x : Image). or_zeros (x (c.args.first + c.loop-k.k))) (sym inv.stays.reads_same) ∙ read.sector (subst IsTrue (sym inv.stays.keeps_same) k));
      long = ap length c.in_ok-push.ensures.items ∙ omega (arith, inv.long, length-append c.loop-k.sectors.items (c.in_ok-sector.sector ∷ []));
    }

pub returns-in_err-sector-clause-stays : goal.returns-in_err-sector-clause-stays
returns-in_err-sector-clause-stays g c =
    let d = g.D.Disk in
    then_reads d.size d.keeps d.reads d.may_hold d.moment d.left_since d.faults d.did c.args.disk.now c.loop-k.disk c.read_sector.new.disk c.loop-k.invariant.stays c.read_sector.ensures.stays

pub returns-in_err-sector-clause-broken : goal.returns-in_err-sector-clause-broken
returns-in_err-sector-clause-broken g c = λ failed.
    reads_then_fails g.D.Disk.did c.args.disk.now c.loop-k.disk c.read_sector.new.disk c.loop-k.invariant.stays.calls
    (c.read_sector.ensures.broken (handed_on c.from_residual.result c.read_sector.result c.in_err-sector.field-0.0 _ c.from_residual.ensures.1 failed c.in_err-sector.was))

pub returns-in_err-push-clause-stays : goal.returns-in_err-push-clause-stays
returns-in_err-push-clause-stays g c =
    let d = g.D.Disk in
    then_reads d.size d.keeps d.reads d.may_hold d.moment d.left_since d.faults d.did c.args.disk.now c.loop-k.disk c.read_sector.new.disk c.loop-k.invariant.stays c.in_ok-sector.ensures.stays
