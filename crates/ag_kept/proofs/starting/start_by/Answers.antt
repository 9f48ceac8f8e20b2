use Rattle.std.proofs.Common.{Ok, false, sym, ap, ◌∙◌, arith}
use Rattle.ag_outside.specs.Scripts.{ScriptedView}
use Rattle.ag_outside.specs.Shown.{reads_of}
use Rattle.ag_kept.specs.declared.reach.Reach.{Reach}
use Rattle.ag_kept.specs.Kept.{kept_on, started}
use Rattle.ag_kept.proofs.Homes.{reads_leave_pages}
use Rattle.ag_kept.proofs.Started.{was_loaded, can_raise, start_far, start_home, start_end_kept, start_kept, start_memory, started_pages}
use Rattle.ag_kept.proofs.starting.start_by.Goals as goal

pub raise-requires-clause-block : goal.raise-requires-clause-block
raise-requires-clause-block g c =
    let d = g.D.Disk in
    can_raise d.keeps d.reads d.may_hold d.faults c.args.disk.now c.arm.new.self c.load_log.new.disk c.args.suffix.now c.order_of.result c.args.master.now c.in-Ok-Some.store c.arm.ensures c.order_of.ensures c.requires.home c.requires.master c.requires.small (was_loaded d.keeps d.reads d.may_hold d.faults c.arm.new.self c.load_log.new.disk c.args.master.now c.in-Ok-Some.field-0 c.in-Ok-Some.store c.in-Ok-Some.field-0-is c.in-Ok-Some.ensures.loaded)

pub returns-in-Ok-End-clause-reach : goal.returns-in-Ok-End-clause-reach
returns-in-Ok-End-clause-reach g c =
    let d = g.D.Disk in
    sym c.in-Ok-End.field-0-is ∙ start_far d.keeps d.reads d.may_hold d.faults c.args.disk.now c.arm.new.self c.load_log.new.disk c.args.suffix.now c.order_of.result c.args.master.now c.in-Ok-Some.store c.arm.ensures c.order_of.ensures c.requires.home c.requires.master c.requires.small (was_loaded d.keeps d.reads d.may_hold d.faults c.arm.new.self c.load_log.new.disk c.args.master.now c.in-Ok-Some.field-0 c.in-Ok-Some.store c.in-Ok-Some.field-0-is c.in-Ok-Some.ensures.loaded) c.in-Ok-End.field-0 c.in-Ok-End.ensures.reach

pub returns-in-Ok-End-clause-home : goal.returns-in-Ok-End-clause-home
returns-in-Ok-End-clause-home g c =
    let d = g.D.Disk in
    start_home d.keeps d.reads d.may_hold d.faults c.args.disk.now c.arm.new.self c.load_log.new.disk c.args.suffix.now c.order_of.result c.args.master.now c.in-Ok-Some.store c.arm.ensures c.order_of.ensures c.requires.home c.requires.master c.requires.small (was_loaded d.keeps d.reads d.may_hold d.faults c.arm.new.self c.load_log.new.disk c.args.master.now c.in-Ok-Some.field-0 c.in-Ok-Some.store c.in-Ok-Some.field-0-is c.in-Ok-Some.ensures.loaded) c.raise.new.disk c.in-Ok-End.ensures.settled c.raise.ensures.short c.in-Ok-End.field-0 c.in-Ok-End.ensures.image

pub returns-in-Ok-End-clause-kept : goal.returns-in-Ok-End-clause-kept
returns-in-Ok-End-clause-kept g c =
    let d = g.D.Disk in
    start_end_kept d.keeps d.reads d.may_hold d.faults c.args.disk.now c.arm.new.self c.load_log.new.disk c.args.suffix.now c.order_of.result c.args.master.now c.in-Ok-Some.store c.arm.ensures c.order_of.ensures c.requires.home c.requires.master c.requires.small (was_loaded d.keeps d.reads d.may_hold d.faults c.arm.new.self c.load_log.new.disk c.args.master.now c.in-Ok-Some.field-0 c.in-Ok-Some.store c.in-Ok-Some.field-0-is c.in-Ok-Some.ensures.loaded) c.raise.new.disk c.in-Ok-End.ensures.settled c.raise.ensures.short c.in-Ok-End.field-0 c.in-Ok-End.field-0-is c.in-Ok-End.ensures.image

pub returns-in-Ok-End-clause-memory : goal.returns-in-Ok-End-clause-memory
returns-in-Ok-End-clause-memory g c =
    let d = g.D.Disk in
    start_memory d.keeps d.reads d.may_hold d.faults c.args.disk.now c.arm.new.self c.load_log.new.disk c.args.suffix.now c.order_of.result c.args.master.now c.in-Ok-Some.store c.arm.ensures c.order_of.ensures c.requires.home c.requires.master c.requires.small (was_loaded d.keeps d.reads d.may_hold d.faults c.arm.new.self c.load_log.new.disk c.args.master.now c.in-Ok-Some.field-0 c.in-Ok-Some.store c.in-Ok-Some.field-0-is c.in-Ok-Some.ensures.loaded) c.raise.new.disk c.in-Ok-End.ensures.settled c.raise.ensures.short d.may_hold c.raise.new.store c.in-Ok-End.field-0 c.in-Ok-End.field-0-is c.in-Ok-End.ensures.image c.raise.ensures.store (c.raise.ensures.durable (c.in-Ok-End.is ∙ ap (λ (x : Reach). Ok x) c.in-Ok-End.field-0-is))

pub returns-in-Ok-Stop-clause-reach : goal.returns-in-Ok-Stop-clause-reach
returns-in-Ok-Stop-clause-reach g c =
    let d = g.D.Disk in
    sym c.in-Ok-Stop.field-0-is ∙ start_far d.keeps d.reads d.may_hold d.faults c.args.disk.now c.arm.new.self c.load_log.new.disk c.args.suffix.now c.order_of.result c.args.master.now c.in-Ok-Some.store c.arm.ensures c.order_of.ensures c.requires.home c.requires.master c.requires.small (was_loaded d.keeps d.reads d.may_hold d.faults c.arm.new.self c.load_log.new.disk c.args.master.now c.in-Ok-Some.field-0 c.in-Ok-Some.store c.in-Ok-Some.field-0-is c.in-Ok-Some.ensures.loaded) c.in-Ok-Stop.field-0 c.in-Ok-Stop.ensures.reach

pub returns-in-Ok-Stop-clause-home : goal.returns-in-Ok-Stop-clause-home
returns-in-Ok-Stop-clause-home g c =
    let d = g.D.Disk in
    start_home d.keeps d.reads d.may_hold d.faults c.args.disk.now c.arm.new.self c.load_log.new.disk c.args.suffix.now c.order_of.result c.args.master.now c.in-Ok-Some.store c.arm.ensures c.order_of.ensures c.requires.home c.requires.master c.requires.small (was_loaded d.keeps d.reads d.may_hold d.faults c.arm.new.self c.load_log.new.disk c.args.master.now c.in-Ok-Some.field-0 c.in-Ok-Some.store c.in-Ok-Some.field-0-is c.in-Ok-Some.ensures.loaded) c.raise.new.disk c.in-Ok-Stop.ensures.settled c.raise.ensures.short c.in-Ok-Stop.field-0 c.in-Ok-Stop.ensures.image

pub returns-in-Ok-Stop-clause-kept : goal.returns-in-Ok-Stop-clause-kept
returns-in-Ok-Stop-clause-kept g c =
    let d = g.D.Disk in
    start_kept d.keeps d.reads d.may_hold d.faults c.args.disk.now c.arm.new.self c.load_log.new.disk c.args.suffix.now c.order_of.result c.args.master.now c.in-Ok-Some.store c.arm.ensures c.order_of.ensures c.requires.home c.requires.master c.requires.small (was_loaded d.keeps d.reads d.may_hold d.faults c.arm.new.self c.load_log.new.disk c.args.master.now c.in-Ok-Some.field-0 c.in-Ok-Some.store c.in-Ok-Some.field-0-is c.in-Ok-Some.ensures.loaded) c.raise.new.disk c.in-Ok-Stop.ensures.settled c.raise.ensures.short c.in-Ok-Stop.field-0 (λ e. absurd (cc (sym c.in-Ok-Stop.field-0-is ∙ e))) c.in-Ok-Stop.ensures.image ∙ ap (λ (x : Reach). started (kept_on (reads_of d.reads c.args.disk.now) false) x) c.in-Ok-Stop.field-0-is

pub returns-in-Ok-Fault-clause-reach : goal.returns-in-Ok-Fault-clause-reach
returns-in-Ok-Fault-clause-reach g c =
    let d = g.D.Disk in
    sym c.in-Ok-Fault.field-0-is ∙ start_far d.keeps d.reads d.may_hold d.faults c.args.disk.now c.arm.new.self c.load_log.new.disk c.args.suffix.now c.order_of.result c.args.master.now c.in-Ok-Some.store c.arm.ensures c.order_of.ensures c.requires.home c.requires.master c.requires.small (was_loaded d.keeps d.reads d.may_hold d.faults c.arm.new.self c.load_log.new.disk c.args.master.now c.in-Ok-Some.field-0 c.in-Ok-Some.store c.in-Ok-Some.field-0-is c.in-Ok-Some.ensures.loaded) c.in-Ok-Fault.field-0 c.in-Ok-Fault.ensures.reach

pub returns-in-Ok-Fault-clause-home : goal.returns-in-Ok-Fault-clause-home
returns-in-Ok-Fault-clause-home g c =
    let d = g.D.Disk in
    start_home d.keeps d.reads d.may_hold d.faults c.args.disk.now c.arm.new.self c.load_log.new.disk c.args.suffix.now c.order_of.result c.args.master.now c.in-Ok-Some.store c.arm.ensures c.order_of.ensures c.requires.home c.requires.master c.requires.small (was_loaded d.keeps d.reads d.may_hold d.faults c.arm.new.self c.load_log.new.disk c.args.master.now c.in-Ok-Some.field-0 c.in-Ok-Some.store c.in-Ok-Some.field-0-is c.in-Ok-Some.ensures.loaded) c.raise.new.disk c.in-Ok-Fault.ensures.settled c.raise.ensures.short c.in-Ok-Fault.field-0 c.in-Ok-Fault.ensures.image

pub returns-in-Ok-Fault-clause-kept : goal.returns-in-Ok-Fault-clause-kept
returns-in-Ok-Fault-clause-kept g c =
    let d = g.D.Disk in
    start_kept d.keeps d.reads d.may_hold d.faults c.args.disk.now c.arm.new.self c.load_log.new.disk c.args.suffix.now c.order_of.result c.args.master.now c.in-Ok-Some.store c.arm.ensures c.order_of.ensures c.requires.home c.requires.master c.requires.small (was_loaded d.keeps d.reads d.may_hold d.faults c.arm.new.self c.load_log.new.disk c.args.master.now c.in-Ok-Some.field-0 c.in-Ok-Some.store c.in-Ok-Some.field-0-is c.in-Ok-Some.ensures.loaded) c.raise.new.disk c.in-Ok-Fault.ensures.settled c.raise.ensures.short c.in-Ok-Fault.field-0 (λ e. absurd (cc (sym c.in-Ok-Fault.field-0-is ∙ e))) c.in-Ok-Fault.ensures.image ∙ ap (λ (x : Reach). started (kept_on (reads_of d.reads c.args.disk.now) false) x) c.in-Ok-Fault.field-0-is

pub returns-in-Ok-End-clause-later : goal.returns-in-Ok-End-clause-later
returns-in-Ok-End-clause-later g c =
    let d = g.D.Disk in
    omega (arith, ap (λ (v : ScriptedView _). d.faults v.disk) c.arm.ensures, c.in-Ok-Some.ensures.later, c.in-Ok-End.ensures.later)

pub returns-in-Ok-Stop-clause-later : goal.returns-in-Ok-Stop-clause-later
returns-in-Ok-Stop-clause-later g c =
    let d = g.D.Disk in
    omega (arith, ap (λ (v : ScriptedView _). d.faults v.disk) c.arm.ensures, c.in-Ok-Some.ensures.later, c.in-Ok-Stop.ensures.later)

pub returns-in-Ok-Fault-clause-later : goal.returns-in-Ok-Fault-clause-later
returns-in-Ok-Fault-clause-later g c =
    let d = g.D.Disk in
    omega (arith, ap (λ (v : ScriptedView _). d.faults v.disk) c.arm.ensures, c.in-Ok-Some.ensures.later, c.in-Ok-Fault.ensures.later)

pub returns-in-Ok-End-clause-pages : goal.returns-in-Ok-End-clause-pages
returns-in-Ok-End-clause-pages g c =
    let d = g.D.Disk in
    started_pages (reads_of d.reads c.args.disk.now) (reads_of d.reads c.load_log.new.disk) (reads_of d.reads c.raise.new.disk) _ c.in-Ok-End.field-0 (c.in-Ok-Some.ensures.same ∙ ap (reads_of d.reads) c.arm.ensures) c.in-Ok-End.ensures.image

pub returns-in-Ok-Stop-clause-pages : goal.returns-in-Ok-Stop-clause-pages
returns-in-Ok-Stop-clause-pages g c =
    let d = g.D.Disk in
    started_pages (reads_of d.reads c.args.disk.now) (reads_of d.reads c.load_log.new.disk) (reads_of d.reads c.raise.new.disk) _ c.in-Ok-Stop.field-0 (c.in-Ok-Some.ensures.same ∙ ap (reads_of d.reads) c.arm.ensures) c.in-Ok-Stop.ensures.image

pub returns-in-Ok-Fault-clause-pages : goal.returns-in-Ok-Fault-clause-pages
returns-in-Ok-Fault-clause-pages g c =
    let d = g.D.Disk in
    started_pages (reads_of d.reads c.args.disk.now) (reads_of d.reads c.load_log.new.disk) (reads_of d.reads c.raise.new.disk) _ c.in-Ok-Fault.field-0 (c.in-Ok-Some.ensures.same ∙ ap (reads_of d.reads) c.arm.ensures) c.in-Ok-Fault.ensures.image

pub returns-in-Ok-None-clause-pages : goal.returns-in-Ok-None-clause-pages
returns-in-Ok-None-clause-pages g c =
    let d = g.D.Disk in
    reads_leave_pages (reads_of d.reads c.args.disk.now) (reads_of d.reads c.load_log.new.disk) (c.in-Ok-None.ensures.same ∙ ap (reads_of d.reads) c.arm.ensures)
