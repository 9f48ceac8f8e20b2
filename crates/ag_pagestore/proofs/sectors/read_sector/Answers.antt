use Rattle.std.proofs.Common.{ap, ◌∙◌, subst, Err, Result}
use Rattle.std.proofs.lemmas.Result.{err_from_is_err_and}
use Rattle.ag_outside.specs.declared.disk.Found.{Found}
use Rattle.ag_outside.specs.declared.disk.DiskError.{DiskError}
use Rattle.ag_outside.specs.Calls.{Read_call}
use Rattle.ag_pagestore.proofs.Faults.{failed_is}
use Rattle.ag_pagestore.specs.Calling.{reads_none}
use Rattle.ag_pagestore.proofs.Leading.{reads_on, read_fails}
use Rattle.ag_pagestore.proofs.sectors.read_sector.Goals as goal

pub returns-in_err-read-clause-broken : goal.returns-in_err-read-clause-broken
returns-in_err-read-clause-broken g c = λ failed.
    let d = c.args.disk.now in
    let e = failed_is c.from_residual.result c.in_err-read.field-0.0 (err_from_is_err_and c.from_residual.result c.from_residual.ensures.1) failed in
    read_fails g.D.Disk.did d d (reads_none g.D.Disk.did d) c.args.at c.read.new.self (subst (λ (r : Result Found DiskError). g.D.Disk.did d (Read_call c.args.at r) c.read.new.self) (c.in_err-read.was ∙ ap (λ (x : DiskError). Err x) e) c.read.ensures.did)

pub returns-in_err-read-clause-calls : goal.returns-in_err-read-clause-calls
returns-in_err-read-clause-calls g c =
    let d = c.args.disk.now in
    reads_on g.D.Disk.did d d (reads_none g.D.Disk.did d) c.args.at c.read.result c.read.new.self c.read.ensures.did

pub returns-in-Bytes-clause-calls : goal.returns-in-Bytes-clause-calls
returns-in-Bytes-clause-calls g c =
    let d = c.args.disk.now in
    reads_on g.D.Disk.did d d (reads_none g.D.Disk.did d) c.args.at c.read.result c.read.new.self c.read.ensures.did

pub returns-in-Lost-clause-calls : goal.returns-in-Lost-clause-calls
returns-in-Lost-clause-calls g c =
    let d = c.args.disk.now in
    reads_on g.D.Disk.did d d (reads_none g.D.Disk.did d) c.args.at c.read.result c.read.new.self c.read.ensures.did
