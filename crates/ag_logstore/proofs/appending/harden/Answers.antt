use Rattle.std.proofs.Common.{◌≡◌, ◌⊎◌, ℕ, ◌-◌, List, length, sym, ap, subst, ◌∙◌, arith, Err}
use Rattle.std.specs.Prelude.{Contains}
use Rattle.ag_model.specs.declared.record.Record.{Record}
use Rattle.ag_model.specs.declared.record.Log.{Log}
use Rattle.ag_model.specs.Blocks.{with_block, cut_at}
use Rattle.ag_lists.proofs.Results.{err_is}
use Rattle.ag_record.specs.Spelling.{records_spelling}
use Rattle.ag_logblock.specs.Block.{HasBlock}
use Rattle.ag_outside.specs.Disks.{writes, put_all}
use Rattle.ag_outside.specs.Moments.{LeavesOnly}
use Rattle.ag_outside.specs.Calls.{TakesAll, FailsOnTheWay}
use Rattle.ag_logstore.specs.Stored.{Stored, sectors_of}
use Rattle.ag_logstore.specs.Stores.{sector_after, stored_by}
use Rattle.ag_logstore.proofs.Fitting.{payload_some}
use Rattle.ag_logstore.proofs.Standing.{IsWritable, count_of_block}
use Rattle.ag_logstore.proofs.Runs.{IsWrittenTo, one_piece}
use Rattle.ag_logstore.proofs.Written.{place_is, room_is, moved_to}
use Rattle.ag_logstore.proofs.Raising.{cut_back, can_cut_back}
use Rattle.ag_logstore.proofs.appending.harden.Goals as goal

-- the place and the sectors of the write
sectors_are : (head : Stored) (now items : List (List ℕ)) (slice : List Record) → now ≡ items → items ≡ sectors_of (record { head = head.head; records = slice }) → slice ≡ head.records → now ≡ sectors_of head
sectors_are head now items slice a b e = a ∙ b ∙ ap (λ rs. sectors_of (record { head = head.head; records = rs })) e

pub write_synced-requires : goal.write_synced-requires
write_synced-requires g c =
    let log = c.args.log.now in
    let b = stored_by c.args.incarnation c.args.block.now in
    let w : IsWritable b = (c.requires.payload, subst (λ (rs : List Record). HasBlock b.head (records_spelling rs)) c.as_slice.ensures c.spell.ensures.block) in
    let first = place_is log b.records (295232 - c.free_sectors.result) c.requires.payload c.requires.room (ap (λ n. 295232 - n) c.free_sectors.ensures) in
    let sectors = sectors_are b c.as_slice-2.result.now c.in_ok-sectors.sectors.items c.as_slice.result.now c.as_slice-2.ensures.value c.in_ok-sectors.ensures.sectors c.as_slice.ensures in
    omega (arith, first, ap length sectors, count_of_block b w, room_is log b w c.requires.room, c.requires.place)

pub returns-in-Ok-clause-written : goal.returns-in-Ok-clause-written
returns-in-Ok-clause-written g c = λ k.
    let log = c.args.log.now in
    let b = stored_by c.args.incarnation c.args.block.now in
    let first = place_is log b.records (295232 - c.free_sectors.result) c.requires.payload c.requires.room (ap (λ n. 295232 - n) c.free_sectors.ensures) in
    let sectors = sectors_are b c.as_slice-2.result.now c.in_ok-sectors.sectors.items c.as_slice.result.now c.as_slice-2.ensures.value c.in_ok-sectors.ensures.sectors c.as_slice.ensures in
    moved_to (λ n ss. g.D.Disk.reads c.write_synced.new.disk ≡ put_all (g.D.Disk.reads c.args.disk.now) (writes n ss)) (295232 - c.free_sectors.result) (sector_after log) c.as_slice-2.result.now (sectors_of b) first sectors (c.in-Ok.ensures.written k)

pub returns-in-Ok-clause-any_moment : goal.returns-in-Ok-clause-any_moment
returns-in-Ok-clause-any_moment g c =
    let d = g.D.Disk in
    let log = c.args.log.now in
    let b = stored_by c.args.incarnation c.args.block.now in
    let first = place_is log b.records (295232 - c.free_sectors.result) c.requires.payload c.requires.room (ap (λ n. 295232 - n) c.free_sectors.ensures) in
    let sectors = sectors_are b c.as_slice-2.result.now c.in_ok-sectors.sectors.items c.as_slice.result.now c.as_slice-2.ensures.value c.in_ok-sectors.ensures.sectors c.as_slice.ensures in
    moved_to (λ n ss. LeavesOnly d.moment d.left_since c.args.disk.now c.write_synced.new.disk (IsWrittenTo (d.may_hold c.args.disk.now) (writes n ss))) (295232 - c.free_sectors.result) (sector_after log) c.as_slice-2.result.now (sectors_of b) first sectors c.write_synced.ensures.any_moment

pub returns-in-Ok-clause-calls : goal.returns-in-Ok-clause-calls
returns-in-Ok-clause-calls g c =
    let log = c.args.log.now in
    let b = stored_by c.args.incarnation c.args.block.now in
    let first = place_is log b.records (295232 - c.free_sectors.result) c.requires.payload c.requires.room (ap (λ n. 295232 - n) c.free_sectors.ensures) in
    let sectors = sectors_are b c.as_slice-2.result.now c.in_ok-sectors.sectors.items c.as_slice.result.now c.as_slice-2.ensures.value c.in_ok-sectors.ensures.sectors c.as_slice.ensures in
    moved_to (λ n ss. TakesAll g.D.Disk.did c.args.disk.now (one_piece n ss) c.write_synced.new.disk) (295232 - c.free_sectors.result) (sector_after log) c.as_slice-2.result.now (sectors_of b) first sectors c.in-Ok.ensures.calls

pub cut-requires : goal.cut-requires
cut-requires g c =
    let log = c.args.log.now in
    let P : ℕ → Log → Type 0 = λ n after. (n ≡ 0) ⊎ Contains after.ends n in
    subst (P c.end-before.result) (sym c.in_ok-append.ensures.ok) (subst (λ n. P n (with_block log c.in_ok-copy.copy)) (sym c.end-before.ensures) (can_cut_back log c.in_ok-copy.copy c.append.ensures.rose))

pub returns-clause-err : goal.returns-clause-err
returns-clause-err g c =
    let log = c.args.log.now in
    let some = payload_some c.args.block.now.records c.requires.payload in
    let copied = ap length c.in_ok-copy.ensures in
    c.cut.ensures ∙ ap (λ n. cut_at n c.append.new.self) c.end-before.ensures ∙ ap (cut_at (length log.records)) c.in_ok-append.ensures.ok ∙ cut_back log c.in_ok-copy.copy c.append.ensures.rose (omega (arith, some, copied))

pub returns-clause-any_moment : goal.returns-clause-any_moment
returns-clause-any_moment g c =
    let d = g.D.Disk in
    let log = c.args.log.now in
    let b = stored_by c.args.incarnation c.args.block.now in
    let first = place_is log b.records (295232 - c.free_sectors.result) c.requires.payload c.requires.room (ap (λ n. 295232 - n) c.free_sectors.ensures) in
    let sectors = sectors_are b c.as_slice-2.result.now c.in_ok-sectors.sectors.items c.as_slice.result.now c.as_slice-2.ensures.value c.in_ok-sectors.ensures.sectors c.as_slice.ensures in
    moved_to (λ n ss. LeavesOnly d.moment d.left_since c.args.disk.now c.write_synced.new.disk (IsWrittenTo (d.may_hold c.args.disk.now) (writes n ss))) (295232 - c.free_sectors.result) (sector_after log) c.as_slice-2.result.now (sectors_of b) first sectors c.write_synced.ensures.any_moment

pub returns-clause-broken : goal.returns-clause-broken
returns-clause-broken g c = λ failed.
    let log = c.args.log.now in
    let b = stored_by c.args.incarnation c.args.block.now in
    let first = place_is log b.records (295232 - c.free_sectors.result) c.requires.payload c.requires.room (ap (λ n. 295232 - n) c.free_sectors.ensures) in
    let sectors = sectors_are b c.as_slice-2.result.now c.in_ok-sectors.sectors.items c.as_slice.result.now c.as_slice-2.ensures.value c.in_ok-sectors.ensures.sectors c.as_slice.ensures in
    moved_to (λ n ss. FailsOnTheWay g.D.Disk.did c.args.disk.now (one_piece n ss) c.write_synced.new.disk) (295232 - c.free_sectors.result) (sector_after log) c.as_slice-2.result.now (sectors_of b) first sectors
    (c.write_synced.ensures.broken (c.in-Err.is ∙ ap (λ e. Err e) (err_is failed)))
