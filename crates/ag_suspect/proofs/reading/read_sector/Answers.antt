use Rattle.std.proofs.Common.{ap, ◌∙◌, Err}
use Rattle.ag_lists.proofs.Results.{err_is}
use Rattle.ag_suspect.proofs.Runs.{one_read, one_fails}
use Rattle.ag_suspect.proofs.reading.read_sector.Goals as goal

pub returns-in-Ok-Bytes-clause-stays : goal.returns-in-Ok-Bytes-clause-stays
returns-in-Ok-Bytes-clause-stays g c =
    let d = g.D.Disk in let e = c.read.ensures in
    one_read d.size d.keeps d.reads d.may_hold d.moment d.left_since d.faults d.did c.args.disk.now c.read.new.self c.args.at c.read.result (d.traced c.args.disk.now) (g.met.D.Disk.only_now c.args.disk.now)
    e.size e.keeps e.reads e.crash e.time e.cause.later e.did

pub returns-in-Ok-Lost-clause-stays : goal.returns-in-Ok-Lost-clause-stays
returns-in-Ok-Lost-clause-stays g c =
    let d = g.D.Disk in let e = c.read.ensures in
    one_read d.size d.keeps d.reads d.may_hold d.moment d.left_since d.faults d.did c.args.disk.now c.read.new.self c.args.at c.read.result (d.traced c.args.disk.now) (g.met.D.Disk.only_now c.args.disk.now)
    e.size e.keeps e.reads e.crash e.time e.cause.later e.did

pub returns-in-Err-clause-stays : goal.returns-in-Err-clause-stays
returns-in-Err-clause-stays g c =
    let d = g.D.Disk in let e = c.read.ensures in
    one_read d.size d.keeps d.reads d.may_hold d.moment d.left_since d.faults d.did c.args.disk.now c.read.new.self c.args.at c.read.result (d.traced c.args.disk.now) (g.met.D.Disk.only_now c.args.disk.now)
    e.size e.keeps e.reads e.crash e.time e.cause.later e.did

pub returns-in-Err-clause-broken : goal.returns-in-Err-clause-broken
returns-in-Err-clause-broken g c = λ failed. one_fails g.D.Disk.did c.args.disk.now c.read.new.self c.args.at c.read.result c.read.ensures.did (c.in-Err.is ∙ ap (λ e. Err e) (c.fault_of.ensures.failed (err_is failed)))
