use Rattle.std.proofs.Common.{Err, ap, ◌∙◌}
use Rattle.ag_durable.proofs.Fetches.{still_synced, free_risen}
use Rattle.ag_outside.specs.declared.order.Arm.TheVariants.{Free}
use Rattle.ag_durable.proofs.Laters.{ordered_later}
use Rattle.ag_durable.proofs.fetching.read_cells_free.Goals as goal

pub returns-in-Ok-clause-unsynced : goal.returns-in-Ok-clause-unsynced
returns-in-Ok-clause-unsynced g c =
    let d = g.D.Disk in
    still_synced d.size d.keeps d.reads d.may_hold d.faults c.args.disk.now c.arm.new.self c.read_cells.new.disk c.arm.ensures c.requires.synced c.read_cells.ensures.calls

pub returns-in-Err-Failed-clause-unsynced : goal.returns-in-Err-Failed-clause-unsynced
returns-in-Err-Failed-clause-unsynced g c =
    let d = g.D.Disk in
    still_synced d.size d.keeps d.reads d.may_hold d.faults c.args.disk.now c.arm.new.self c.read_cells.new.disk c.arm.ensures c.requires.synced c.read_cells.ensures.calls

pub returns-in-Err-NoMemory-clause-unsynced : goal.returns-in-Err-NoMemory-clause-unsynced
returns-in-Err-NoMemory-clause-unsynced g c =
    let d = g.D.Disk in
    still_synced d.size d.keeps d.reads d.may_hold d.faults c.args.disk.now c.arm.new.self c.read_cells.new.disk c.arm.ensures c.requires.synced c.read_cells.ensures.calls

pub returns-in-Err-Failed-clause-fault : goal.returns-in-Err-Failed-clause-fault
returns-in-Err-Failed-clause-fault g c = λ e.
    let d = g.D.Disk in
    free_risen d.size d.keeps d.reads d.may_hold d.faults c.args.disk.now c.arm.new.self c.read_cells.new.disk c.arm.ensures c.requires.synced (c.read_cells.ensures.broken (c.in-Err-Failed.is ∙ ap (λ e. Err e) c.in-Err-Failed.field-0-is))

pub returns-in-Ok-clause-later : goal.returns-in-Ok-clause-later
returns-in-Ok-clause-later g c =
    let d = g.D.Disk in
    ordered_later d.keeps d.reads d.may_hold d.faults c.args.disk.now c.arm.new.self c.read_cells.new.disk Free c.arm.ensures c.read_cells.ensures.calls

pub returns-in-Err-Failed-clause-later : goal.returns-in-Err-Failed-clause-later
returns-in-Err-Failed-clause-later g c =
    let d = g.D.Disk in
    ordered_later d.keeps d.reads d.may_hold d.faults c.args.disk.now c.arm.new.self c.read_cells.new.disk Free c.arm.ensures c.read_cells.ensures.calls

pub returns-in-Err-NoMemory-clause-later : goal.returns-in-Err-NoMemory-clause-later
returns-in-Err-NoMemory-clause-later g c =
    let d = g.D.Disk in
    ordered_later d.keeps d.reads d.may_hold d.faults c.args.disk.now c.arm.new.self c.read_cells.new.disk Free c.arm.ensures c.read_cells.ensures.calls
