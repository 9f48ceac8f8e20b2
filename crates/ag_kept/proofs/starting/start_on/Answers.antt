use Rattle.std.proofs.Common.{◌+◌, ◌^◌, ◌<◌, false, sym, ap, ◌∙◌, subst}
use Rattle.ag_outside.specs.Disks.{Image}
use Rattle.ag_outside.specs.Shown.{reads_of}
use Rattle.ag_kept.specs.Kept.{master_on, kept_on, started}
use Rattle.ag_outside.proofs.Quiet.{risen_before}
use Rattle.ag_kept.proofs.Coming.{if_ok}
use Rattle.ag_kept.proofs.Homes.{reads_leave_pages, pages_then}
use Rattle.ag_kept.proofs.Opened.{both_ok}
use Rattle.ag_kept.proofs.Started.{settled_home}
use Rattle.ag_kept.proofs.starting.start_on.Goals as goal

pub start_by-requires-clause-home : goal.start_by-requires-clause-home
start_by-requires-clause-home g c =
    let d = g.D.Disk in
    let old = c.args.disk.now in
    settled_home d.keeps d.reads old c.read_master.new.disk c.requires.home c.in-Ok.ensures.settled (reads_of d.reads old) c.in-Ok.ensures.same c.requires.home.home

pub start_by-requires-clause-master : goal.start_by-requires-clause-master
start_by-requires-clause-master g c = c.in-Ok.ensures.master ∙ ap master_on (sym c.in-Ok.ensures.same)

pub start_by-requires-clause-small : goal.start_by-requires-clause-small
start_by-requires-clause-small g c = subst (λ m. m.incarnation + 1 < 2 ^ 64) (sym c.in-Ok.ensures.master) c.requires.small

pub returns-in-Ok-clause-kept : goal.returns-in-Ok-clause-kept
returns-in-Ok-clause-kept g c =
    let d = g.D.Disk in
    if_ok c.start_by.result c.start_by.ensures.kept (λ x kept. kept ∙ ap (λ (image : Image). started (kept_on image false) x.0) c.in-Ok.ensures.same)

pub returns-in-Ok-clause-fault : goal.returns-in-Ok-clause-fault
returns-in-Ok-clause-fault g c = λ e.
    let f = g.D.Disk.faults in
    risen_before (f c.args.disk.now.disk) (f c.read_master.new.disk.disk) (f c.start_by.new.disk.disk) c.in-Ok.ensures.later (c.start_by.ensures.fault e)

pub returns-in-Ok-clause-pages : goal.returns-in-Ok-clause-pages
returns-in-Ok-clause-pages g c =
    let d = g.D.Disk in
    let read = reads_leave_pages (reads_of d.reads c.args.disk.now) (reads_of d.reads c.read_master.new.disk) c.in-Ok.ensures.same in
    both_ok c.start_by.result c.start_by.ensures.pages c.start_by.ensures.pages (λ later again. pages_then (reads_of d.reads c.args.disk.now) (reads_of d.reads c.read_master.new.disk) (reads_of d.reads c.start_by.new.disk) read later)
