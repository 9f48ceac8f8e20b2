use Rattle.std.proofs.Common.{Err, ap, ◌∙◌}
use Rattle.ag_durable.proofs.Reading.{read_can, read_later, read_risen}
use Rattle.ag_durable.proofs.opening.read_suspects.Goals as goal

pub returns-in-Ok-clause-can : goal.returns-in-Ok-clause-can
returns-in-Ok-clause-can g c =
    let d = g.D.Disk in
    read_can d.size d.keeps d.reads d.may_hold d.faults c.args.disk.now c.arm.new.self c.load.new.disk c.arm.ensures c.requires.can c.in-Ok.ensures.calls c.load.ensures.size c.load.ensures.reads

pub returns-in-Ok-clause-later : goal.returns-in-Ok-clause-later
returns-in-Ok-clause-later g c =
    let d = g.D.Disk in
    read_later d.size d.keeps d.reads d.may_hold d.faults c.args.disk.now c.arm.new.self c.load.new.disk c.arm.ensures c.requires.can c.in-Ok.ensures.calls

pub returns-in-Err-DiskFault-clause-fault : goal.returns-in-Err-DiskFault-clause-fault
returns-in-Err-DiskFault-clause-fault g c = λ e.
    let d = g.D.Disk in
    read_risen d.size d.keeps d.reads d.may_hold d.faults c.args.disk.now c.arm.new.self c.load.new.disk c.arm.ensures c.requires.can (c.load.ensures.broken (c.in-Err-DiskFault.is ∙ ap (λ e. Err e) c.in-Err-DiskFault.field-0-is))
