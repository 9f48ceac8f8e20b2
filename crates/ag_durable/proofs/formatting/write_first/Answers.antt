use Rattle.std.proofs.Common.{IsTrue, ◌≤◌, Err, sym, ap, ◌∙◌, subst}
use Rattle.ag_outside.specs.Disks.{Image}
use Rattle.ag_outside.specs.Scripts.{ScriptedView}
use Rattle.ag_outside.specs.Shown.{reads_of}
use Rattle.ag_logstore.specs.Stored.{log_end}
use Rattle.ag_kept.specs.Kept.{master_on}
use Rattle.ag_kept.specs.Starting.{with_master}
use Rattle.ag_kept.specs.Saving.{master_piece}
use Rattle.ag_kept.proofs.Opened.{free_write_fails, free_write_settles, free_write_later}
use Rattle.ag_keeping.specs.Keeping.{IsKeeping}
use Rattle.ag_durable.proofs.Firsts.{first_own}
use Rattle.ag_durable.proofs.formatting.write_first.Goals as goal

pub returns-in-Ok-clause-can : goal.returns-in-Ok-clause-can
returns-in-Ok-clause-can g c =
    let d = g.D.Disk in
    let old = c.args.disk.now in
    let m = c.args.master.now in
    let settled = free_write_settles d.keeps d.reads d.may_hold d.faults old c.arm.new.self c.save.new.disk c.arm.ensures c.requires.blank.unsynced (master_piece m) c.in-Ok.ensures.calls in
    let k : IsTrue (d.keeps c.arm.new.self.disk) = subst (λ (v : ScriptedView _). IsTrue (d.keeps v.disk)) (sym c.arm.ensures) c.requires.blank.modelled in
    let now = c.in-Ok.ensures.saved k ∙ ap (λ (v : ScriptedView _). with_master (reads_of d.reads v) m) c.arm.ensures in
    record {
      room = subst (λ n. log_end ≤ n) (sym (c.save.ensures.size ∙ ap (λ (v : ScriptedView _). d.size v.disk) c.arm.ensures)) c.requires.room;
      modelled = subst IsTrue (sym settled.keeps_same) c.requires.blank.modelled;
      unsynced = settled.unsynced;
      keeping = subst (λ (i : Image). IsKeeping (master_on i).pages (master_on i).replica i) (sym now) (first_own (reads_of d.reads old) c.requires.blank.zeros m c.requires.master c.requires.fits c.requires.few);
    }

pub returns-in-Ok-clause-later : goal.returns-in-Ok-clause-later
returns-in-Ok-clause-later g c =
    let d = g.D.Disk in
    free_write_later d.keeps d.reads d.may_hold d.faults c.args.disk.now c.arm.new.self c.save.new.disk c.arm.ensures c.requires.blank.unsynced (master_piece c.args.master.now) c.in-Ok.ensures.calls

pub returns-in-Err-DiskFault-clause-fault : goal.returns-in-Err-DiskFault-clause-fault
returns-in-Err-DiskFault-clause-fault g c = λ e.
    let d = g.D.Disk in
    free_write_fails d.keeps d.reads d.may_hold d.faults c.args.disk.now c.arm.new.self c.save.new.disk c.arm.ensures c.requires.blank.unsynced (master_piece c.args.master.now) (c.save.ensures.broken (c.in-Err-DiskFault.is ∙ ap (λ e. Err e) c.in-Err-DiskFault.field-0-is))
