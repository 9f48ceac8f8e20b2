use Rattle.std.proofs.lemmas.Result.{err_from_is_err_and}
use Rattle.ag_wire.proofs.Payload.{all_records, fault_of_records}
use Rattle.ag_wire.proofs.fields.records_of.Goals as goal

pub returns-in_err-records : goal.returns-in_err-records
returns-in_err-records c =
    let p = err_from_is_err_and c.from_residual.result c.from_residual.ensures.1 in
    rw (p.1, p.2) (fault_of_records c.args.b.now c.in_err-records.field-0.0 c.in_err-records.ensures.fault)

pub returns : goal.returns
returns c = all_records c.args.b.now c.in_ok-records.records c.in_ok-records.ensures.fits c.in_ok-records.ensures.spelled
