use Rattle.std.proofs.Common.{ap, ◌∙◌, Err}
use Rattle.ag_lists.proofs.Results.{err_is}
use Rattle.ag_outside.specs.Disks.{IsImage}
use Rattle.ag_outside.proofs.Running.{started, goes_on}
use Rattle.ag_logstore.proofs.Runs.{handed_on, sync_then_reads, sync_then_fails, sync_fails, leaves_then, no_more}
use Rattle.ag_logstore.proofs.store.load.Goals as goal

pub returns-in_err-log-in-Ok-clause-broken : goal.returns-in_err-log-in-Ok-clause-broken
returns-in_err-log-in-Ok-clause-broken g c = λ failed.
    sync_then_fails g.D.Disk.did c.args.disk.now c.sync.new.self c.read_log.new.disk c.sync.result c.sync.ensures.did
    (c.read_log.ensures.broken (handed_on c.from_residual.result c.read_log.result c.in_err-log-in-Ok.field-0.0 _ c.from_residual.ensures.1 failed c.in_err-log-in-Ok.was))

pub returns-in_ok-log-in-Ok-clause-calls : goal.returns-in_ok-log-in-Ok-clause-calls
returns-in_ok-log-in-Ok-clause-calls g c =
    sync_then_reads g.D.Disk.did c.args.disk.now c.sync.new.self c.read_log.new.disk c.sync.result c.sync.ensures.did c.in-Ok.is c.in_ok-log-in-Ok.ensures.stays.calls

pub returns-in-Err-clause-broken : goal.returns-in-Err-clause-broken
returns-in-Err-clause-broken g c = λ failed. sync_fails g.D.Disk.did c.args.disk.now c.sync.new.self c.sync.result c.sync.ensures.did (c.in-Err.is ∙ ap (λ e. Err e) (c.fault_of.ensures.failed (err_is failed)))

pub returns-in_err-log-in-Ok-clause-any_moment : goal.returns-in_err-log-in-Ok-clause-any_moment
returns-in_err-log-in-Ok-clause-any_moment g c =
    let d = g.D.Disk in
    let a = c.args.disk.now in
    let P = IsImage (d.may_hold a) in
    let synced = goes_on d.moment d.left_since a a c.sync.new.self P _ _ (started d.moment d.left_since a P (g.met.D.Disk.only_now a)) c.sync.ensures.time (no_more (d.may_hold a) (d.may_hold c.sync.new.self) c.sync.ensures.crash) in
    leaves_then d.moment d.left_since a c.sync.new.self c.read_log.new.disk P (IsImage (d.may_hold c.sync.new.self)) synced c.read_log.ensures.stays.moments (no_more (d.may_hold a) (d.may_hold c.sync.new.self) c.sync.ensures.crash)

pub returns-in_ok-log-in-Ok-clause-any_moment : goal.returns-in_ok-log-in-Ok-clause-any_moment
returns-in_ok-log-in-Ok-clause-any_moment g c =
    let d = g.D.Disk in
    let a = c.args.disk.now in
    let P = IsImage (d.may_hold a) in
    let synced = goes_on d.moment d.left_since a a c.sync.new.self P _ _ (started d.moment d.left_since a P (g.met.D.Disk.only_now a)) c.sync.ensures.time (no_more (d.may_hold a) (d.may_hold c.sync.new.self) c.sync.ensures.crash) in
    leaves_then d.moment d.left_since a c.sync.new.self c.read_log.new.disk P (IsImage (d.may_hold c.sync.new.self)) synced c.read_log.ensures.stays.moments (no_more (d.may_hold a) (d.may_hold c.sync.new.self) c.sync.ensures.crash)

pub returns-in-Err-clause-any_moment : goal.returns-in-Err-clause-any_moment
returns-in-Err-clause-any_moment g c =
    let d = g.D.Disk in
    let a = c.args.disk.now in
    let P = IsImage (d.may_hold a) in
    goes_on d.moment d.left_since a a c.sync.new.self P _ _ (started d.moment d.left_since a P (g.met.D.Disk.only_now a)) c.sync.ensures.time (no_more (d.may_hold a) (d.may_hold c.sync.new.self) c.sync.ensures.crash)
