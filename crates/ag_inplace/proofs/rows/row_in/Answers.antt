use Rattle.std.proofs.Common.{◌∙◌, ap, arith, Ok}
use Rattle.ag_model.specs.declared.value.Row.{Row}
use Rattle.ag_inplace.proofs.Picked.{row-own, row-other}
use Rattle.ag_inplace.proofs.rows.row_in.Goals as goal

pub returns-then-snapshot-horizon-clause-row : goal.returns-then-snapshot-horizon-clause-row
returns-then-snapshot-horizon-clause-row c = λ v h le. let e = c.horizon_in-horizon.ensures v h in absurd (omega arith)

pub returns-then-snapshot-horizon-clause-too_old : goal.returns-then-snapshot-horizon-clause-too_old
returns-then-snapshot-horizon-clause-too_old c = λ v h lt. let e = c.horizon_in-horizon.ensures v h in cc

pub returns-in-Some-clause-row : goal.returns-in-Some-clause-row
returns-in-Some-clause-row c = λ v h le.
    ap (λ (r : Row). Ok r) (c.row_of.ensures ∙ row-own c.in-Some.version c.own_version.result v c.args.key c.args.snapshot c.args.own c.in-Some.is (c.own_version.ensures v.versions (c.directory_of-d.ensures v h)))

pub returns-in-None-clause-row : goal.returns-in-None-clause-row
returns-in-None-clause-row c = λ v h le.
    ap (λ (r : Row). Ok r) (c.pick_in.ensures v (c.directory_of-d.ensures v h) ∙ row-other c.own_version.result v c.args.key c.args.snapshot c.args.own c.in-None.is (c.own_version.ensures v.versions (c.directory_of-d.ensures v h)))

pub returns-in-Some-clause-too_old : goal.returns-in-Some-clause-too_old
returns-in-Some-clause-too_old c = λ v h lt. let e = c.horizon_in-horizon.ensures v h in absurd (omega arith)

pub returns-in-None-clause-too_old : goal.returns-in-None-clause-too_old
returns-in-None-clause-too_old c = λ v h lt. let e = c.horizon_in-horizon.ensures v h in absurd (omega arith)
