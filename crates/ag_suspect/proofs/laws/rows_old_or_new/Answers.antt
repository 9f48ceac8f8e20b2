use Rattle.ag_rules.specs.Plan.{noted}
use Rattle.ag_suspect.specs.Places.{repaired, noted_sector, repaired_sector}
use Rattle.ag_suspect.proofs.Left.{old-or-new}
use Rattle.ag_suspect.proofs.Standing.{noted-stands, repaired-stands}
use Rattle.ag_suspect.proofs.laws.rows_old_or_new.Goals as goal

pub returns-clause-noted : goal.returns-clause-noted
returns-clause-noted g c = λ disk left rows page kind only h some within small can is.
    let d = g.D.Disk in
    old-or-new (d.reads disk) left (d.may_hold disk) (noted_sector page kind rows) rows (noted page kind rows) only h (noted-stands (d.reads disk) rows page kind h some within small can) is

pub returns-clause-repaired : goal.returns-clause-repaired
returns-clause-repaired g c = λ disk left rows page only h had is.
    let d = g.D.Disk in
    old-or-new (d.reads disk) left (d.may_hold disk) (repaired_sector page rows) rows (repaired page rows) only h (repaired-stands (d.reads disk) rows page h had) is
