use Rattle.std.proofs.Common.{ap, ◌∙◌, Err, inl}
use Rattle.ag_lists.proofs.Results.{err_is}
use Rattle.ag_outside.specs.Disks.{writes}
use Rattle.ag_outside.proofs.Running.{started, goes_on}
use Rattle.ag_logstore.proofs.Runs.{IsWrittenTo, still_written, took, sync_failed, write_failed}
use Rattle.ag_logstore.proofs.writing.write_synced.Goals as goal

pub returns-in-Ok-sync-clause-any_moment : goal.returns-in-Ok-sync-clause-any_moment
returns-in-Ok-sync-clause-any_moment g c =
    let d = g.D.Disk in
    let a = c.args.disk.now in
    let ws = writes c.args.first c.args.sectors.now in
    let P = IsWrittenTo (d.may_hold a) ws in
    let start = started d.moment d.left_since a P (λ image left at. inl (g.met.D.Disk.only_now a image left at)) in
    let written = goes_on d.moment d.left_since a a c.write.new.self P _ _ start c.write.ensures.time (λ image is at. c.write.ensures.crash at (image at) (is at)) in
    goes_on d.moment d.left_since a c.write.new.self c.sync.new.self P _ _ written c.sync.ensures.time (still_written ws (d.may_hold a) (d.may_hold c.write.new.self) (d.may_hold c.sync.new.self) c.write.ensures.crash c.sync.ensures.crash)

pub returns-in-Err-sync-clause-any_moment : goal.returns-in-Err-sync-clause-any_moment
returns-in-Err-sync-clause-any_moment g c =
    let d = g.D.Disk in
    let a = c.args.disk.now in
    let ws = writes c.args.first c.args.sectors.now in
    let P = IsWrittenTo (d.may_hold a) ws in
    let start = started d.moment d.left_since a P (λ image left at. inl (g.met.D.Disk.only_now a image left at)) in
    let written = goes_on d.moment d.left_since a a c.write.new.self P _ _ start c.write.ensures.time (λ image is at. c.write.ensures.crash at (image at) (is at)) in
    goes_on d.moment d.left_since a c.write.new.self c.sync.new.self P _ _ written c.sync.ensures.time (still_written ws (d.may_hold a) (d.may_hold c.write.new.self) (d.may_hold c.sync.new.self) c.write.ensures.crash c.sync.ensures.crash)

pub returns-in-Ok-sync-clause-calls : goal.returns-in-Ok-sync-clause-calls
returns-in-Ok-sync-clause-calls g c = took g.D.Disk.did c.args.first c.args.sectors.now c.args.disk.now c.write.new.self c.sync.new.self c.write.result c.sync.result c.write.ensures.did c.sync.ensures.did c.in-Ok.is c.in-Ok-sync.is

pub returns-in-Err-sync-clause-broken : goal.returns-in-Err-sync-clause-broken
returns-in-Err-sync-clause-broken g c = λ failed.
    sync_failed g.D.Disk.did c.args.first c.args.sectors.now c.args.disk.now c.write.new.self c.sync.new.self c.write.result c.sync.result c.write.ensures.did c.sync.ensures.did c.in-Ok.is
    (c.in-Err-sync.is ∙ ap (λ e. Err e) (c.fault_of.ensures.failed (err_is failed)))

pub returns-in-Err-clause-broken : goal.returns-in-Err-clause-broken
returns-in-Err-clause-broken g c = λ failed.
    write_failed g.D.Disk.did c.args.first c.args.sectors.now c.args.disk.now c.write.new.self c.write.result c.write.ensures.did (c.in-Err.is ∙ ap (λ e. Err e) (c.fault_of-in-Err.ensures.failed (err_is failed)))
