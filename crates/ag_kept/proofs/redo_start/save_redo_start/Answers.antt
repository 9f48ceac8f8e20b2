use Rattle.std.proofs.Common.{[], ◌∷◌, IsTrue, sym, ap, ◌∙◌, subst, arith}
use Rattle.ag_outside.specs.Calls.{TakesAll}
use Rattle.ag_outside.specs.Disks.{Image}
use Rattle.ag_outside.specs.Shown.{reads_of, did_of}
use Rattle.ag_master.specs.declared.master.Master.{Master}
use Rattle.ag_kept.specs.Saving.{freed, master_piece}
use Rattle.ag_outside.proofs.Quiet.{risen_before}
use Rattle.ag_kept.proofs.Homes.{master_leaves_pages}
use Rattle.ag_kept.proofs.Opened.{both_ok}
use Rattle.ag_kept.proofs.Redoing.{saved_fits, saved_home, saved_kept, saved_memory}
use Rattle.ag_kept.proofs.redo_start.save_redo_start.Goals as goal

pub save_freely-requires-clause-fits : goal.save_freely-requires-clause-fits
save_freely-requires-clause-fits g c =
    let d = g.D.Disk in
    saved_fits d.keeps d.reads c.args.disk.now c.read_master.new.disk c.read_master.new.disk c.in-Ok.master c.args.redo c.ranges.redo.fits c.requires.home c.in-Ok.ensures.master c.in-Ok.ensures.same

pub save_freely-requires-clause-keeps : goal.save_freely-requires-clause-keeps
save_freely-requires-clause-keeps g c = subst IsTrue (sym c.in-Ok.ensures.settled.keeps_same) c.requires.home.modelled

pub returns-in-Ok-clause-home : goal.returns-in-Ok-clause-home
returns-in-Ok-clause-home g c =
    let d = g.D.Disk in
    both_ok c.save_freely.result c.save_freely.ensures.image c.save_freely.ensures.settled
    (λ is settled. saved_home d.keeps d.reads c.args.disk.now c.read_master.new.disk c.save_freely.new.disk c.in-Ok.master c.args.redo c.ranges.redo.fits c.requires.home c.in-Ok.ensures.master c.in-Ok.ensures.same is c.in-Ok.ensures.settled settled)

pub returns-in-Ok-clause-kept : goal.returns-in-Ok-clause-kept
returns-in-Ok-clause-kept g c =
    let d = g.D.Disk in
    both_ok c.save_freely.result c.save_freely.ensures.image c.save_freely.ensures.image
    (λ is again. saved_kept d.keeps d.reads c.args.disk.now c.read_master.new.disk c.save_freely.new.disk c.in-Ok.master c.args.redo c.ranges.redo.fits c.requires.home c.in-Ok.ensures.master c.in-Ok.ensures.same is)

pub returns-in-Ok-clause-memory : goal.returns-in-Ok-clause-memory
returns-in-Ok-clause-memory g c =
    let d = g.D.Disk in
    both_ok c.save_freely.result c.save_freely.ensures.image c.save_freely.ensures.durable
    (λ is only s. saved_memory d.keeps d.reads c.args.disk.now c.read_master.new.disk c.save_freely.new.disk c.in-Ok.master c.args.redo c.ranges.redo.fits c.requires.home c.in-Ok.ensures.master c.in-Ok.ensures.same is d.may_hold s only)

pub returns-in-Ok-clause-pages : goal.returns-in-Ok-clause-pages
returns-in-Ok-clause-pages g c =
    let d = g.D.Disk in
    both_ok c.save_freely.result c.save_freely.ensures.image c.save_freely.ensures.image
    (λ is again at page. ap (λ (i : Image). i at) is ∙ master_leaves_pages (reads_of d.reads c.read_master.new.disk) _ at page ∙ ap (λ (i : Image). i at) c.in-Ok.ensures.same)

pub returns-in-Ok-clause-fault : goal.returns-in-Ok-clause-fault
returns-in-Ok-clause-fault g c = λ e.
    let f = g.D.Disk.faults in
    risen_before (f c.args.disk.now.disk) (f c.read_master.new.disk.disk) (f c.save_freely.new.disk.disk) c.in-Ok.ensures.later (c.save_freely.ensures.fault e)

pub returns-in-Ok-clause-later : goal.returns-in-Ok-clause-later
returns-in-Ok-clause-later g c = both_ok c.save_freely.result c.save_freely.ensures.later c.save_freely.ensures.later (λ later again. omega (arith, c.in-Ok.ensures.later, later))

pub returns-in-Ok-clause-calls : goal.returns-in-Ok-clause-calls
returns-in-Ok-clause-calls g c =
    let d = g.D.Disk in
    both_ok c.save_freely.result c.save_freely.ensures.calls c.save_freely.ensures.calls
    (λ took again. record {
      between = c.read_master.new.disk;
      read = c.in-Ok.ensures.calls;
      took = subst (λ (m : Master). TakesAll (did_of d.keeps d.reads d.may_hold d.faults) (freed c.read_master.new.disk) (master_piece (record m { redo = c.args.redo }) ∷ []) c.save_freely.new.disk) c.in-Ok.ensures.master took;
    })
