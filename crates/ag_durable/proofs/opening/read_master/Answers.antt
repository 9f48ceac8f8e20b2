use Rattle.std.proofs.Common.{IsTrue, Err, sym, ap, ◌∙◌, subst}
use Rattle.ag_outside.specs.Disks.{or_zeros}
use Rattle.ag_outside.specs.Scripts.{ScriptedView}
use Rattle.ag_outside.specs.Shown.{reads_of}
use Rattle.ag_master.specs.Loading.{IsLoaded}
use Rattle.ag_kept.specs.Kept.{master_on}
use Rattle.ag_kept.proofs.Beginning.{loaded_is, same_master}
use Rattle.ag_durable.proofs.Reading.{read_can, read_later, read_risen}
use Rattle.ag_durable.proofs.opening.read_master.Goals as goal

pub master_in-requires : goal.master_in-requires
master_in-requires g c =
    let d = g.D.Disk in
    let image = reads_of d.reads c.args.disk.now in
    let k : IsTrue (d.keeps c.arm.new.self.disk) = subst (λ (v : ScriptedView _). IsTrue (d.keeps v.disk)) (sym c.arm.ensures) c.requires.can.modelled in
    let is = subst (λ (v : ScriptedView _). IsLoaded (or_zeros (reads_of d.reads v 0)) c.in-Ok.loaded) c.arm.ensures (c.in-Ok.ensures.loaded k) in
    (master_on image, loaded_is c.in-Ok.loaded (master_on image) (or_zeros (image 0)) c.requires.can.keeping.fits c.requires.can.keeping.spelled is)

pub returns-in-Ok-clause-master : goal.returns-in-Ok-clause-master
returns-in-Ok-clause-master g c =
    let d = g.D.Disk in
    let image = reads_of d.reads c.args.disk.now in
    let k : IsTrue (d.keeps c.arm.new.self.disk) = subst (λ (v : ScriptedView _). IsTrue (d.keeps v.disk)) (sym c.arm.ensures) c.requires.can.modelled in
    let is = subst (λ (v : ScriptedView _). IsLoaded (or_zeros (reads_of d.reads v 0)) c.in-Ok.loaded) c.arm.ensures (c.in-Ok.ensures.loaded k) in
    same_master c.master_in.result (master_on image) (sym c.master_in.ensures ∙ loaded_is c.in-Ok.loaded (master_on image) (or_zeros (image 0)) c.requires.can.keeping.fits c.requires.can.keeping.spelled is)

pub returns-in-Ok-clause-can : goal.returns-in-Ok-clause-can
returns-in-Ok-clause-can g c =
    let d = g.D.Disk in
    read_can d.size d.keeps d.reads d.may_hold d.faults c.args.disk.now c.arm.new.self c.load.new.disk c.arm.ensures c.requires.can c.in-Ok.ensures.calls c.load.ensures.size c.load.ensures.reads

pub returns-in-Ok-clause-later : goal.returns-in-Ok-clause-later
returns-in-Ok-clause-later g c =
    let d = g.D.Disk in
    read_later d.size d.keeps d.reads d.may_hold d.faults c.args.disk.now c.arm.new.self c.load.new.disk c.arm.ensures c.requires.can c.in-Ok.ensures.calls

pub returns-in-Err-DiskFault-clause-fault : goal.returns-in-Err-DiskFault-clause-fault
returns-in-Err-DiskFault-clause-fault g c = λ e.
    let d = g.D.Disk in
    read_risen d.size d.keeps d.reads d.may_hold d.faults c.args.disk.now c.arm.new.self c.load.new.disk c.arm.ensures c.requires.can (c.load.ensures.broken (c.in-Err-DiskFault.is ∙ ap (λ e. Err e) c.in-Err-DiskFault.field-0-is))
