use Rattle.std.proofs.Common.{IsTrue, Err, sym, ap, ◌∙◌, subst}
use Rattle.ag_outside.specs.declared.order.Arm.TheVariants.{Free}
use Rattle.ag_outside.specs.Calls.{IsReadOnly}
use Rattle.ag_outside.specs.Disks.{or_zeros}
use Rattle.ag_outside.specs.Scripts.{ScriptedView}
use Rattle.ag_outside.specs.Shown.{reads_of, did_of}
use Rattle.ag_master.specs.Loading.{IsLoaded}
use Rattle.ag_kept.specs.Kept.{master_on}
use Rattle.ag_kept.proofs.Calls.{read_settles, free_fails}
use Rattle.ag_kept.proofs.Beginning.{loaded_is, same_master}
use Rattle.ag_kept.proofs.starting.read_master.Goals as goal

pub master_in-requires : goal.master_in-requires
master_in-requires g c =
    let d = g.D.Disk in
    let old = c.args.disk.now in
    let home = c.requires.home.home in
    let k : IsTrue (d.keeps c.arm.new.self.disk) = subst (λ (v : ScriptedView _). IsTrue (d.keeps v.disk)) (sym c.arm.ensures) c.requires.home.modelled in
    let is = subst (λ (v : ScriptedView _). IsLoaded (or_zeros (reads_of d.reads v 0)) c.in-Ok.loaded) c.arm.ensures (c.in-Ok.ensures.loaded k) in
    (master_on (reads_of d.reads old), loaded_is c.in-Ok.loaded (master_on (reads_of d.reads old)) (or_zeros (reads_of d.reads old 0)) home.fits home.spelled is)

pub returns-in-Ok-clause-master : goal.returns-in-Ok-clause-master
returns-in-Ok-clause-master g c =
    let d = g.D.Disk in
    let old = c.args.disk.now in
    let home = c.requires.home.home in
    let k : IsTrue (d.keeps c.arm.new.self.disk) = subst (λ (v : ScriptedView _). IsTrue (d.keeps v.disk)) (sym c.arm.ensures) c.requires.home.modelled in
    let is = subst (λ (v : ScriptedView _). IsLoaded (or_zeros (reads_of d.reads v 0)) c.in-Ok.loaded) c.arm.ensures (c.in-Ok.ensures.loaded k) in
    same_master c.master_in.result (master_on (reads_of d.reads old)) (sym c.master_in.ensures ∙ loaded_is c.in-Ok.loaded (master_on (reads_of d.reads old)) (or_zeros (reads_of d.reads old 0)) home.fits home.spelled is)

pub returns-in-Ok-clause-settled : goal.returns-in-Ok-clause-settled
returns-in-Ok-clause-settled g c =
    let d = g.D.Disk in
    (read_settles d.keeps d.reads d.may_hold d.faults c.args.disk.now c.arm.new.self c.load.new.disk Free c.arm.ensures c.requires.home.unsynced c.in-Ok.ensures.calls).0

pub returns-in-Ok-clause-later : goal.returns-in-Ok-clause-later
returns-in-Ok-clause-later g c =
    let d = g.D.Disk in
    (read_settles d.keeps d.reads d.may_hold d.faults c.args.disk.now c.arm.new.self c.load.new.disk Free c.arm.ensures c.requires.home.unsynced c.in-Ok.ensures.calls).1

pub returns-in-Err-DiskFault-clause-fault : goal.returns-in-Err-DiskFault-clause-fault
returns-in-Err-DiskFault-clause-fault g c = λ e.
    let d = g.D.Disk in
    free_fails d.keeps d.reads d.may_hold d.faults c.args.disk.now c.arm.new.self c.load.new.disk c.arm.ensures c.requires.home.unsynced (c.load.ensures.broken (c.in-Err-DiskFault.is ∙ ap (λ e. Err e) c.in-Err-DiskFault.field-0-is))

pub returns-in-Ok-clause-calls : goal.returns-in-Ok-clause-calls
returns-in-Ok-clause-calls g c =
    let d = g.D.Disk in
    subst (λ (v : ScriptedView _). IsReadOnly (did_of d.keeps d.reads d.may_hold d.faults) v c.load.new.disk) c.arm.ensures c.in-Ok.ensures.calls
