use Rattle.std.proofs.Common.{[], ◌∷◌, Err, ap, ◌∙◌, subst}
use Rattle.ag_outside.specs.Calls.{TakesAll}
use Rattle.ag_outside.specs.Scripts.{ScriptedView}
use Rattle.ag_outside.specs.Shown.{did_of}
use Rattle.ag_kept.specs.Saving.{master_piece}
use Rattle.ag_kept.proofs.Opened.{free_write_fails, free_write_settles, free_write_later}
use Rattle.ag_kept.proofs.opening.save_freely.Goals as goal

pub returns-in-Ok-clause-settled : goal.returns-in-Ok-clause-settled
returns-in-Ok-clause-settled g c =
    let d = g.D.Disk in
    free_write_settles d.keeps d.reads d.may_hold d.faults c.args.disk.now c.arm.new.self c.save.new.disk c.arm.ensures c.requires.unsynced (master_piece c.args.master.now) c.in-Ok.ensures.calls

pub returns-in-Err-DiskFault-clause-fault : goal.returns-in-Err-DiskFault-clause-fault
returns-in-Err-DiskFault-clause-fault g c = λ e.
    let d = g.D.Disk in
    free_write_fails d.keeps d.reads d.may_hold d.faults c.args.disk.now c.arm.new.self c.save.new.disk c.arm.ensures c.requires.unsynced (master_piece c.args.master.now) (c.save.ensures.broken (c.in-Err-DiskFault.is ∙ ap (λ e. Err e) c.in-Err-DiskFault.field-0-is))

pub returns-in-Ok-clause-later : goal.returns-in-Ok-clause-later
returns-in-Ok-clause-later g c =
    let d = g.D.Disk in
    free_write_later d.keeps d.reads d.may_hold d.faults c.args.disk.now c.arm.new.self c.save.new.disk c.arm.ensures c.requires.unsynced (master_piece c.args.master.now) c.in-Ok.ensures.calls

pub returns-in-Ok-clause-calls : goal.returns-in-Ok-clause-calls
returns-in-Ok-clause-calls g c =
    let d = g.D.Disk in
    subst (λ (v : ScriptedView _). TakesAll (did_of d.keeps d.reads d.may_hold d.faults) v (master_piece c.args.master.now ∷ []) c.save.new.disk) c.arm.ensures c.in-Ok.ensures.calls
