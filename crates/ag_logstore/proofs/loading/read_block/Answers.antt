use Rattle.std.proofs.Common.{◌≡◌, ◌+◌, ◌-◌, ◌++◌, [], length, sym, ap, ◌∙◌, subst, arith, IsTrue, List, ℕ}
use Rattle.ag_outside.specs.Disks.{Image}
use Rattle.ag_logstore.specs.Stored.{sectors_at, named_count}
use Rattle.ag_logstore.proofs.Standing.{some_sectors, writable}
use Rattle.ag_logstore.proofs.Runs.{then_reads, reads_then_fails, handed_on}
use Rattle.ag_logstore.proofs.Found.{read_count, is_stored, is_found, in_log, told, told_if}
use Rattle.ag_logstore.proofs.loading.read_block.Goals as goal

pub returns-then-at-ge-LOG_END-clause-block : goal.returns-then-at-ge-LOG_END-clause-block
returns-then-at-ge-LOG_END-clause-block g c = λ k b s. absurd (omega (arith, c.if-at-ge-LOG_END.true, s.within, some_sectors b (writable _ _ b s)))

pub returns-in_err-read_sectors-2-clause-stays : goal.returns-in_err-read_sectors-2-clause-stays
returns-in_err-read_sectors-2-clause-stays g c =
    let d = g.D.Disk in
    then_reads d.size d.keeps d.reads d.may_hold d.moment d.left_since d.faults d.did c.args.disk.now c.read_sectors.new.disk c.read_sectors-2.new.disk c.in_ok-read_sectors.ensures.stays c.read_sectors-2.ensures.stays

pub returns-in_err-read_sectors-2-clause-broken : goal.returns-in_err-read_sectors-2-clause-broken
returns-in_err-read_sectors-2-clause-broken g c = λ failed.
    reads_then_fails g.D.Disk.did c.args.disk.now c.read_sectors.new.disk c.read_sectors-2.new.disk c.in_ok-read_sectors.ensures.stays.calls
    (c.read_sectors-2.ensures.broken (handed_on c.from_residual-in_err-read_sectors-2.result c.read_sectors-2.result c.in_err-read_sectors-2.field-0.0 _ c.from_residual-in_err-read_sectors-2.ensures.1 failed c.in_err-read_sectors-2.was))

pub returns-clause-block : goal.returns-clause-block
returns-clause-block g c =
    let d = g.D.Disk in
    let image = d.reads c.args.disk.now in
    let count = c.min-count.result in
    let first = c.read_sectors.new.sectors.items in
    let all = c.as_slice-2.result.now in
    let stays = c.in_ok-read_sectors.ensures.stays in
    let few : count ≡ read_count c.args.at (named_count first) = omega (arith, c.min.ensures, c.min-count.ensures, c.count_of.ensures, ap named_count c.as_slice.ensures.value) in
    let one : IsTrue (d.keeps c.args.disk.now) → first ≡ [] ++ sectors_at image c.args.at 1 = λ k. c.in_ok-read_sectors.ensures.sectors k ∙ ap (λ ss. ss ++ sectors_at image c.args.at 1) c.new-sectors.ensures.items in
    let others : IsTrue (d.keeps c.args.disk.now) → all ≡ first ++ sectors_at image (c.args.at + 1) (count - 1) = λ k.
    c.as_slice-2.ensures.value ∙ c.in_ok-read_sectors-2.ensures.sectors (subst IsTrue (sym stays.keeps_same) k)
    ∙ ap (λ (x : Image). first ++ sectors_at x (c.args.at + 1) c.saturating_sub.result) stays.reads_same ∙ ap (λ n. first ++ sectors_at image (c.args.at + 1) n) c.saturating_sub.ensures in
    told_if c.block_of.result c.block_of.ensures.block (λ k none b s. none b (is_found image c.args.at count first all b (one k) few (others k) s))
    (λ k b a. is_stored image c.args.at count first all (record { head = b.0; records = b.1 }) (one k) (others k) (omega (arith, c.if-at-ge-LOG_END.false)) (omega (arith, few)) a)

pub returns-clause-within : goal.returns-clause-within
returns-clause-within g c =
    let count = c.min-count.result in
    let first = c.read_sectors.new.sectors.items in
    let all = c.as_slice-2.result.now in
    let few : count ≡ read_count c.args.at (named_count first) = omega (arith, c.min.ensures, c.min-count.ensures, c.count_of.ensures, ap named_count c.as_slice.ensures.value) in
    let one : length first ≡ 0 + 1 = c.in_ok-read_sectors.ensures.long ∙ ap (λ (ss : List (List ℕ)). length ss + 1) c.new-sectors.ensures.items in
    let others : length all ≡ length first + (count - 1) = omega (arith, ap length c.as_slice-2.ensures.value, c.in_ok-read_sectors-2.ensures.long, c.saturating_sub.ensures) in
    told c.block_of.result c.block_of.ensures.block (λ _. tt)
    (λ b a. (a.fits, in_log c.args.at count first all (record { head = b.0; records = b.1 }) one others (omega (arith, c.if-at-ge-LOG_END.false)) (omega (arith, few)) a))

pub returns-clause-stays : goal.returns-clause-stays
returns-clause-stays g c =
    let d = g.D.Disk in
    then_reads d.size d.keeps d.reads d.may_hold d.moment d.left_since d.faults d.did c.args.disk.now c.read_sectors.new.disk c.read_sectors-2.new.disk c.in_ok-read_sectors.ensures.stays c.in_ok-read_sectors-2.ensures.stays
