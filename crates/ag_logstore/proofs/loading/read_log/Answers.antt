use Rattle.std.proofs.Common.{◌≡◌, ◌+◌, ◌/◌, sym, ap, ◌∙◌, subst, arith, IsTrue}
use Rattle.std.proofs.lemmas.Bool.{false≢true}
use Rattle.ag_model.specs.Sizes.{block_sectors, records_size}
use Rattle.ag_record.proofs.Many.{length-records}
use Rattle.ag_outside.specs.Disks.{Image}
use Rattle.ag_logstore.specs.Stored.{Stored, IsStored}
use Rattle.ag_logstore.proofs.Fitting.{payload_small}
use Rattle.ag_logstore.proofs.Runs.{not_read, then_reads, reads_then_fails, handed_on}
use Rattle.ag_logstore.proofs.Found.{none_yet, one_read_more, ends_without, ends_before, IsPartly, MayFollow}
use Rattle.ag_logstore.proofs.loading.read_log.Goals as goal

pub reading-init : goal.reading-init
reading-init g c =
    let d = g.D.Disk in
    record {
      stays = not_read d.size d.keeps d.reads d.may_hold d.moment d.left_since d.faults d.did c.args.disk.now (g.met.D.Disk.only_now c.args.disk.now);
      partly = λ _. subst (λ log. IsPartly (d.reads c.args.disk.now) c.args.cut c.args.incarnation log 33088 0) (sym c.new-log.ensures) (none_yet (d.reads c.args.disk.now) c.args.cut c.args.incarnation);
      within = omega arith;
    }

pub returns-in_err-head-clause-stays : goal.returns-in_err-head-clause-stays
returns-in_err-head-clause-stays g c =
    let d = g.D.Disk in
    then_reads d.size d.keeps d.reads d.may_hold d.moment d.left_since d.faults d.did c.args.disk.now c.reading.disk c.read_block.new.disk c.reading.invariant.stays c.read_block.ensures.stays

pub returns-in_err-head-clause-broken : goal.returns-in_err-head-clause-broken
returns-in_err-head-clause-broken g c = λ failed.
    reads_then_fails g.D.Disk.did c.args.disk.now c.reading.disk c.read_block.new.disk c.reading.invariant.stays.calls
    (c.read_block.ensures.broken (handed_on c.from_residual.result c.read_block.result c.in_err-head.field-0.0 _ c.from_residual.ensures.1 failed c.in_err-head.was))

pub returns-in_default-clause-stays : goal.returns-in_default-clause-stays
returns-in_default-clause-stays g c =
    let d = g.D.Disk in
    then_reads d.size d.keeps d.reads d.may_hold d.moment d.left_since d.faults d.did c.args.disk.now c.reading.disk c.read_block.new.disk c.reading.invariant.stays c.read_block.ensures.stays

pub returns-then-not-is_next-clause-stays : goal.returns-then-not-is_next-clause-stays
returns-then-not-is_next-clause-stays g c =
    let d = g.D.Disk in
    then_reads d.size d.keeps d.reads d.may_hold d.moment d.left_since d.faults d.did c.args.disk.now c.reading.disk c.read_block.new.disk c.reading.invariant.stays c.read_block.ensures.stays

pub returns-in_err-append-clause-stays : goal.returns-in_err-append-clause-stays
returns-in_err-append-clause-stays g c =
    let d = g.D.Disk in
    then_reads d.size d.keeps d.reads d.may_hold d.moment d.left_since d.faults d.did c.args.disk.now c.reading.disk c.read_block.new.disk c.reading.invariant.stays c.read_block.ensures.stays

pub returns-in_default-clause-log : goal.returns-in_default-clause-log
returns-in_default-clause-log g c = λ k.
    let d = g.D.Disk in
    let stays = c.reading.invariant.stays in
    let none = rw c.in_default.is at c.in_ok-head.ensures.block (subst IsTrue (sym stays.keeps_same) k) in
    ends_without (d.reads c.args.disk.now) c.args.cut c.args.incarnation c.reading.log c.reading.at c.reading.least (c.reading.invariant.partly k)
    (subst (λ (image : Image). (b : Stored) → IsStored image c.reading.at b → ⊥) stays.reads_same none)

pub returns-then-not-is_next-clause-log : goal.returns-then-not-is_next-clause-log
returns-then-not-is_next-clause-log g c = λ k.
    let d = g.D.Disk in
    let stays = c.reading.invariant.stays in
    let b : Stored = record { head = c.in-Some.head; records = c.in-Some.records } in
    let here : IsStored (d.reads c.reading.disk) c.reading.at b = rw c.in-Some.is at c.in_ok-head.ensures.block (subst IsTrue (sym stays.keeps_same) k) in
    ends_before (d.reads c.args.disk.now) c.args.cut c.args.incarnation c.reading.log c.reading.at c.reading.least (c.reading.invariant.partly k) b
    (subst (λ (image : Image). IsStored image c.reading.at b) stays.reads_same here)
    (λ may. false≢true (sym c.if-not-is_next.true ∙ c.is_next.ensures.1 (subst (λ n. MayFollow c.args.cut c.args.incarnation n c.in-Some.head c.reading.least) (sym c.end.ensures) may)))

pub small_size-requires : goal.small_size-requires
small_size-requires g c =
    let some = rw c.in-Some.is at c.in_ok-head.ensures.within in
    rw c.as_slice.ensures (payload_small c.in-Some.records some.0)

pub reading-preserved : goal.reading-preserved
reading-preserved g c =
    let d = g.D.Disk in
    let stays = c.reading.invariant.stays in
    let b : Stored = record { head = c.in-Some.head; records = c.in-Some.records } in
    let some = rw c.in-Some.is at c.in_ok-head.ensures.within in
    let sectors : block_sectors c.in-Some.records ≡ c.block_sectors_of.result = sym (c.block_sectors_of.ensures ∙ ap (λ n. (n + 483) / 484) (c.small_size.ensures ∙ ap records_size c.as_slice.ensures)) in
    let next = c.is_next.ensures.0 c.if-not-is_next.false in
    record {
      stays = then_reads d.size d.keeps d.reads d.may_hold d.moment d.left_since d.faults d.did c.args.disk.now c.reading.disk c.read_block.new.disk stays c.read_block.ensures.stays;
      partly = λ k.
          let here : IsStored (d.reads c.reading.disk) c.reading.at b = rw c.in-Some.is at c.in_ok-head.ensures.block (subst IsTrue (sym stays.keeps_same) k) in
          let more = one_read_more (d.reads c.args.disk.now) c.args.cut c.args.incarnation c.reading.log c.reading.at c.reading.least (c.reading.invariant.partly k) b
          (subst (λ (image : Image). IsStored image c.reading.at b) stays.reads_same here) (subst (λ n. MayFollow c.args.cut c.args.incarnation n c.in-Some.head c.reading.least) c.end.ensures next) in
          subst (λ n. IsPartly (d.reads c.args.disk.now) c.args.cut c.args.incarnation c.append.new.self (c.reading.at + n) c.in-Some.head.incarnation) sectors
          (subst (λ log. IsPartly (d.reads c.args.disk.now) c.args.cut c.args.incarnation log (c.reading.at + block_sectors c.in-Some.records) c.in-Some.head.incarnation) (sym c.in_ok-append.ensures.ok) more);
      within = omega (arith, sectors, some.1);
    }

pub reading-smaller : goal.reading-smaller
reading-smaller g c =
    let some = rw c.in-Some.is at c.in_ok-head.ensures.within in
    let sectors : block_sectors c.in-Some.records ≡ c.block_sectors_of.result = sym (c.block_sectors_of.ensures ∙ ap (λ n. (n + 483) / 484) (c.small_size.ensures ∙ ap records_size c.as_slice.ensures)) in
    let bytes = length-records c.in-Some.records some.0.fit in
    let least = some.0.least in
    omega (arith, sectors, some.1, bytes, least)
