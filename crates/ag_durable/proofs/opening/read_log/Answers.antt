use Rattle.std.proofs.Common.{IsTrue, Err, sym, ap, ◌∙◌, subst}
use Rattle.ag_outside.specs.Scripts.{ScriptedView}
use Rattle.ag_outside.specs.Shown.{reads_of}
use Rattle.ag_logstore.specs.LogOf.{IsLogOf}
use Rattle.ag_kept.specs.Kept.{master_on}
use Rattle.ag_durable.proofs.Reading.{synced_can, synced_later, read_risen, log_read}
use Rattle.ag_durable.proofs.opening.read_log.Goals as goal

pub returns-in-Ok-clause-log : goal.returns-in-Ok-clause-log
returns-in-Ok-clause-log g c =
    let d = g.D.Disk in
    let image = reads_of d.reads c.args.disk.now in
    let k : IsTrue (d.keeps c.arm.new.self.disk) = subst (λ (v : ScriptedView _). IsTrue (d.keeps v.disk)) (sym c.arm.ensures) c.requires.can.modelled in
    let is = subst (λ (v : ScriptedView _). IsLogOf (reads_of d.reads v) c.args.master.now.cut c.args.master.now.incarnation c.in-Ok.log.log) c.arm.ensures (c.in-Ok.ensures.log k) in
    log_read (master_on image).pages (master_on image).replica image c.requires.can.keeping c.args.master.now c.in-Ok.log c.requires.master is c.in-Ok.ensures.fields

pub returns-in-Ok-clause-can : goal.returns-in-Ok-clause-can
returns-in-Ok-clause-can g c =
    let d = g.D.Disk in
    let k : IsTrue (d.keeps c.arm.new.self.disk) = subst (λ (v : ScriptedView _). IsTrue (d.keeps v.disk)) (sym c.arm.ensures) c.requires.can.modelled in
    synced_can d.size d.keeps d.reads d.may_hold d.faults c.args.disk.now c.arm.new.self c.load.new.disk c.arm.ensures c.requires.can c.in-Ok.ensures.calls c.load.ensures.size (c.in-Ok.ensures.reads k)

pub returns-in-Ok-clause-later : goal.returns-in-Ok-clause-later
returns-in-Ok-clause-later g c =
    let d = g.D.Disk in
    synced_later d.size d.keeps d.reads d.may_hold d.faults c.args.disk.now c.arm.new.self c.load.new.disk c.arm.ensures c.requires.can c.in-Ok.ensures.calls

pub returns-in-Err-DiskFault-clause-fault : goal.returns-in-Err-DiskFault-clause-fault
returns-in-Err-DiskFault-clause-fault g c = λ e.
    let d = g.D.Disk in
    read_risen d.size d.keeps d.reads d.may_hold d.faults c.args.disk.now c.arm.new.self c.load.new.disk c.arm.ensures c.requires.can (c.load.ensures.broken (c.in-Err-DiskFault.is ∙ ap (λ e. Err e) c.in-Err-DiskFault.field-0-is))
