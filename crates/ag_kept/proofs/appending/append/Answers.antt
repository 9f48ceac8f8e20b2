use Rattle.std.proofs.Common.{Err, ap, ◌∙◌}
use Rattle.ag_logstore.specs.Stores.{StoreView, stored_by}
use Rattle.ag_kept.proofs.Coming.{append_failed, append_went, append_leaves, follows_so, sectors_is, if_ok, on_ok, always_ok, append_later}
use Rattle.ag_kept.proofs.appending.append.Goals as goal

pub returns-in-Ok-clause-reach : goal.returns-in-Ok-clause-reach
returns-in-Ok-clause-reach g c =
    let d = g.D.Disk in
    let s = c.args.store.now in
    let block = c.args.block.now in
    let ready = c.requires.ready in
    let f = follows_so s block c.requires.payload ready.least ready.most c.head_fits.ensures c.requires.first c.requires.room in
    (append_went d.keeps d.reads d.may_hold d.faults c.args.disk.now c.arm.new.self c.append_harden.new.disk s (stored_by s.incarnation block) c.args.suffix.now c.order_of.result c.arm.ensures c.order_of.ensures c.requires.unsynced c.requires.keeps (ready.current c.requires.keeps) f c.in-Ok.ensures.calls).0

pub returns-in-Ok-clause-settled : goal.returns-in-Ok-clause-settled
returns-in-Ok-clause-settled g c =
    let d = g.D.Disk in
    let s = c.args.store.now in
    let block = c.args.block.now in
    let ready = c.requires.ready in
    let f = follows_so s block c.requires.payload ready.least ready.most c.head_fits.ensures c.requires.first c.requires.room in
    (append_went d.keeps d.reads d.may_hold d.faults c.args.disk.now c.arm.new.self c.append_harden.new.disk s (stored_by s.incarnation block) c.args.suffix.now c.order_of.result c.arm.ensures c.order_of.ensures c.requires.unsynced c.requires.keeps (ready.current c.requires.keeps) f c.in-Ok.ensures.calls).1

pub returns-in-Ok-clause-later : goal.returns-in-Ok-clause-later
returns-in-Ok-clause-later g c =
    let d = g.D.Disk in
    let s = c.args.store.now in
    let block = c.args.block.now in
    let ready = c.requires.ready in
    let f = follows_so s block c.requires.payload ready.least ready.most c.head_fits.ensures c.requires.first c.requires.room in
    (append_went d.keeps d.reads d.may_hold d.faults c.args.disk.now c.arm.new.self c.append_harden.new.disk s (stored_by s.incarnation block) c.args.suffix.now c.order_of.result c.arm.ensures c.order_of.ensures c.requires.unsynced c.requires.keeps (ready.current c.requires.keeps) f c.in-Ok.ensures.calls).2

pub returns-in-Ok-clause-log : goal.returns-in-Ok-clause-log
returns-in-Ok-clause-log g c =
    let d = g.D.Disk in
    let s = c.args.store.now in
    let block = c.args.block.now in
    let ready = c.requires.ready in
    let f = follows_so s block c.requires.payload ready.least ready.most c.head_fits.ensures c.requires.first c.requires.room in
    let settled = (append_went d.keeps d.reads d.may_hold d.faults c.args.disk.now c.arm.new.self c.append_harden.new.disk s (stored_by s.incarnation block) c.args.suffix.now c.order_of.result c.arm.ensures c.order_of.ensures c.requires.unsynced c.requires.keeps (ready.current c.requires.keeps) f c.in-Ok.ensures.calls).1 in
    append_leaves d.keeps d.reads d.may_hold d.faults c.args.disk.now c.arm.new.self c.append_harden.new.disk s (stored_by s.incarnation block) c.args.suffix.now c.order_of.result c.arm.ensures c.order_of.ensures c.requires.unsynced c.requires.keeps (ready.current c.requires.keeps) f
    _ c.append_harden.new.self c.in-Ok.ensures.written c.in-Ok.ensures.log c.in-Ok.ensures.ready (ap (λ (v : StoreView). v.incarnation) c.in-Ok.ensures.ok) settled.keeps_same

pub returns-in-Err-DiskFault-clause-reach : goal.returns-in-Err-DiskFault-clause-reach
returns-in-Err-DiskFault-clause-reach g c =
    let d = g.D.Disk in
    let s = c.args.store.now in
    let block = c.args.block.now in
    let ready = c.requires.ready in
    let f = follows_so s block c.requires.payload ready.least ready.most c.head_fits.ensures c.requires.first c.requires.room in
    let sectors = sectors_is block.records c.as_slice.result.now c.in_ok-records_size.field-0 c.block_sectors_of-sectors.result c.in_ok-records_size.ensures c.as_slice.ensures c.block_sectors_of-sectors.ensures in
    let broken = c.append_harden.ensures.broken (c.in-Err-DiskFault.is ∙ ap (λ e. Err e) c.in-Err-DiskFault.field-0-is) in
    let ended = append_failed d.keeps d.reads d.may_hold d.faults c.args.disk.now c.arm.new.self c.append_harden.new.disk s (stored_by s.incarnation block) c.args.suffix.now c.order_of.result c.arm.ensures c.order_of.ensures c.requires.unsynced c.requires.keeps (ready.current c.requires.keeps) f c.block_sectors_of-sectors.result c.why.result c.reached.result broken c.why.ensures sectors c.reached.ensures in
    if_ok c.reached.result ended.so_far (λ r x. x.far)

pub returns-in-Err-DiskFault-clause-log : goal.returns-in-Err-DiskFault-clause-log
returns-in-Err-DiskFault-clause-log g c =
    let d = g.D.Disk in
    let s = c.args.store.now in
    let block = c.args.block.now in
    let ready = c.requires.ready in
    let f = follows_so s block c.requires.payload ready.least ready.most c.head_fits.ensures c.requires.first c.requires.room in
    let sectors = sectors_is block.records c.as_slice.result.now c.in_ok-records_size.field-0 c.block_sectors_of-sectors.result c.in_ok-records_size.ensures c.as_slice.ensures c.block_sectors_of-sectors.ensures in
    let broken = c.append_harden.ensures.broken (c.in-Err-DiskFault.is ∙ ap (λ e. Err e) c.in-Err-DiskFault.field-0-is) in
    let ended = append_failed d.keeps d.reads d.may_hold d.faults c.args.disk.now c.arm.new.self c.append_harden.new.disk s (stored_by s.incarnation block) c.args.suffix.now c.order_of.result c.arm.ensures c.order_of.ensures c.requires.unsynced c.requires.keeps (ready.current c.requires.keeps) f c.block_sectors_of-sectors.result c.why.result c.reached.result broken c.why.ensures sectors c.reached.ensures in
    if_ok c.reached.result ended.so_far (λ r x. x.log)

pub returns-in-Err-DiskFault-clause-settled : goal.returns-in-Err-DiskFault-clause-settled
returns-in-Err-DiskFault-clause-settled g c =
    let d = g.D.Disk in
    let s = c.args.store.now in
    let block = c.args.block.now in
    let ready = c.requires.ready in
    let f = follows_so s block c.requires.payload ready.least ready.most c.head_fits.ensures c.requires.first c.requires.room in
    let sectors = sectors_is block.records c.as_slice.result.now c.in_ok-records_size.field-0 c.block_sectors_of-sectors.result c.in_ok-records_size.ensures c.as_slice.ensures c.block_sectors_of-sectors.ensures in
    let broken = c.append_harden.ensures.broken (c.in-Err-DiskFault.is ∙ ap (λ e. Err e) c.in-Err-DiskFault.field-0-is) in
    let ended = append_failed d.keeps d.reads d.may_hold d.faults c.args.disk.now c.arm.new.self c.append_harden.new.disk s (stored_by s.incarnation block) c.args.suffix.now c.order_of.result c.arm.ensures c.order_of.ensures c.requires.unsynced c.requires.keeps (ready.current c.requires.keeps) f c.block_sectors_of-sectors.result c.why.result c.reached.result broken c.why.ensures sectors c.reached.ensures in
    on_ok c.reached.result ended.so_far (λ r x. x.settled)

pub returns-in-Err-DiskFault-clause-fault : goal.returns-in-Err-DiskFault-clause-fault
returns-in-Err-DiskFault-clause-fault g c =
    let d = g.D.Disk in
    let s = c.args.store.now in
    let block = c.args.block.now in
    let ready = c.requires.ready in
    let f = follows_so s block c.requires.payload ready.least ready.most c.head_fits.ensures c.requires.first c.requires.room in
    let sectors = sectors_is block.records c.as_slice.result.now c.in_ok-records_size.field-0 c.block_sectors_of-sectors.result c.in_ok-records_size.ensures c.as_slice.ensures c.block_sectors_of-sectors.ensures in
    let broken = c.append_harden.ensures.broken (c.in-Err-DiskFault.is ∙ ap (λ e. Err e) c.in-Err-DiskFault.field-0-is) in
    let ended = append_failed d.keeps d.reads d.may_hold d.faults c.args.disk.now c.arm.new.self c.append_harden.new.disk s (stored_by s.incarnation block) c.args.suffix.now c.order_of.result c.arm.ensures c.order_of.ensures c.requires.unsynced c.requires.keeps (ready.current c.requires.keeps) f c.block_sectors_of-sectors.result c.why.result c.reached.result broken c.why.ensures sectors c.reached.ensures in
    ended.below

pub returns-in-Err-DiskFault-clause-later : goal.returns-in-Err-DiskFault-clause-later
returns-in-Err-DiskFault-clause-later g c =
    let d = g.D.Disk in
    let s = c.args.store.now in
    let block = c.args.block.now in
    let ready = c.requires.ready in
    let f = follows_so s block c.requires.payload ready.least ready.most c.head_fits.ensures c.requires.first c.requires.room in
    let broken = c.append_harden.ensures.broken (c.in-Err-DiskFault.is ∙ ap (λ e. Err e) c.in-Err-DiskFault.field-0-is) in
    always_ok c.reached.result (append_later d.keeps d.reads d.may_hold d.faults c.args.disk.now c.arm.new.self c.append_harden.new.disk s (stored_by s.incarnation block) c.args.suffix.now c.order_of.result c.arm.ensures c.order_of.ensures c.requires.unsynced c.requires.keeps (ready.current c.requires.keeps) f broken)
