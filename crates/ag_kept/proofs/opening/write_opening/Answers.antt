use Rattle.std.proofs.Common.{◌+◌, IsTrue, Ok, length, sym, ap, ◌∙◌, subst, arith}
use Rattle.ag_model.specs.declared.message.Block.{Block}
use Rattle.ag_model.specs.Sizes.{block_sectors, free_sectors}
use Rattle.ag_outside.specs.Disks.{Image}
use Rattle.ag_outside.specs.Shown.{reads_of}
use Rattle.ag_logstore.specs.Stores.{StoreView}
use Rattle.ag_kept.specs.declared.reach.Reach.{Reach}
use Rattle.ag_outside.proofs.Quiet.{risen_before}
use Rattle.ag_kept.proofs.Homes.{master_leaves_pages, log_leaves_pages}
use Rattle.ag_kept.proofs.Opened.{both_ok, opened_log, opened_store_is, opened_at_home, opened_kept_on, opened_memory}
use Rattle.ag_kept.proofs.opening.write_opening.Goals as goal

pub append-requires-clause-open : goal.append-requires-clause-open
append-requires-clause-open g c = ap (λ (v : StoreView). v.is_closed) c.requires.store

pub append-requires-clause-first : goal.append-requires-clause-first
append-requires-clause-first g c = ap (λ (b : Block). b.first) c.requires.block ∙ sym (ap (λ (v : StoreView). length v.log.records + 1) c.requires.store)

pub append-requires-clause-room : goal.append-requires-clause-room
append-requires-clause-room g c =
    let need = ap (λ (b : Block). block_sectors b.records) c.requires.block in
    let free = ap (λ (v : StoreView). free_sectors v.log) c.requires.store in
    omega (arith, need, free)

pub returns-in-Ok-clause-home : goal.returns-in-Ok-clause-home
returns-in-Ok-clause-home g c =
    let d = g.D.Disk in
    let old = c.args.disk.now in
    let mid = c.append.new.disk in
    let new = c.save_freely.new.disk in
    let m = c.args.master.now in
    let is = c.requires.master in
    let records = ap (λ (b : Block). b.records) c.requires.block in
    let has = opened_log (reads_of d.reads old) (reads_of d.reads mid) c.args.store.now c.args.block.now.records c.in-Ok.field-0 c.requires.store records c.in-Ok.ensures.reach c.in-Ok.ensures.log in
    let k : IsTrue (d.keeps mid.disk) = subst IsTrue (sym c.in-Ok.ensures.settled.keeps_same) c.requires.blank.modelled in
    both_ok c.save_freely.result c.save_freely.ensures.image c.save_freely.ensures.settled (λ image settled. opened_at_home d.keeps d.reads mid new m m.pages m.replica is c.requires.fits has k image settled)

pub returns-in-Ok-clause-memory : goal.returns-in-Ok-clause-memory
returns-in-Ok-clause-memory g c =
    let d = g.D.Disk in
    let old = c.args.disk.now in
    let mid = c.append.new.disk in
    let new = c.save_freely.new.disk in
    let m = c.args.master.now in
    let is = c.requires.master in
    let records = ap (λ (b : Block). b.records) c.requires.block in
    let has = opened_log (reads_of d.reads old) (reads_of d.reads mid) c.args.store.now c.args.block.now.records c.in-Ok.field-0 c.requires.store records c.in-Ok.ensures.reach c.in-Ok.ensures.log in
    let k : IsTrue (d.keeps mid.disk) = subst IsTrue (sym c.in-Ok.ensures.settled.keeps_same) c.requires.blank.modelled in
    let done = c.in-Ok.is ∙ ap (λ (r : Reach). Ok r) c.in-Ok.ensures.reach in
    let store = opened_store_is c.args.store.now c.append.new.store c.args.block.now.records c.requires.store records (c.append.ensures.store done) in
    both_ok c.save_freely.result c.save_freely.ensures.image c.save_freely.ensures.durable (λ image only. opened_memory d.keeps d.reads mid new m m.pages m.replica is c.requires.fits has k image d.may_hold c.append.new.store store ((c.append.ensures.ready done).current k) only)

pub returns-in-Ok-clause-kept : goal.returns-in-Ok-clause-kept
returns-in-Ok-clause-kept g c =
    let d = g.D.Disk in
    let old = c.args.disk.now in
    let mid = c.append.new.disk in
    let new = c.save_freely.new.disk in
    let m = c.args.master.now in
    let is = c.requires.master in
    let records = ap (λ (b : Block). b.records) c.requires.block in
    let has = opened_log (reads_of d.reads old) (reads_of d.reads mid) c.args.store.now c.args.block.now.records c.in-Ok.field-0 c.requires.store records c.in-Ok.ensures.reach c.in-Ok.ensures.log in
    let k : IsTrue (d.keeps mid.disk) = subst IsTrue (sym c.in-Ok.ensures.settled.keeps_same) c.requires.blank.modelled in
    both_ok c.save_freely.result c.save_freely.ensures.image c.save_freely.ensures.image (λ image again. opened_kept_on d.keeps d.reads mid new m m.pages m.replica is c.requires.fits has k image)

pub returns-in-Ok-clause-fault : goal.returns-in-Ok-clause-fault
returns-in-Ok-clause-fault g c =
    let d = g.D.Disk in
    λ e. risen_before (d.faults c.args.disk.now.disk) (d.faults c.append.new.disk.disk) (d.faults c.save_freely.new.disk.disk) c.in-Ok.ensures.later (c.save_freely.ensures.fault e)

pub returns-in-Ok-clause-later : goal.returns-in-Ok-clause-later
returns-in-Ok-clause-later g c = both_ok c.save_freely.result c.save_freely.ensures.later c.save_freely.ensures.later (λ later again. omega (arith, c.in-Ok.ensures.later, later))

pub returns-in-Ok-clause-pages : goal.returns-in-Ok-clause-pages
returns-in-Ok-clause-pages g c =
    let d = g.D.Disk in
    let old = reads_of d.reads c.args.disk.now in
    let mid = reads_of d.reads c.append.new.disk in
    let log_written = log_leaves_pages old mid _ _ _ c.in-Ok.ensures.log in
    both_ok c.save_freely.result c.save_freely.ensures.image c.save_freely.ensures.image
    (λ is again at page. ap (λ (i : Image). i at) is ∙ master_leaves_pages mid c.args.master.now at page ∙ log_written at page)
