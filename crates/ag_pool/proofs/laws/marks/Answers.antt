use Rattle.std.proofs.Common.{◌+◌}
use Rattle.ag_pool.proofs.Marks.{marks, kept, untouched, numbered}
use Rattle.ag_pool.proofs.laws.marks.Goals as goal

pub returns-clause-marks : goal.returns-clause-marks
returns-clause-marks c = marks

pub returns-clause-kept : goal.returns-clause-kept
returns-clause-kept c = kept

pub returns-clause-untouched : goal.returns-clause-untouched
returns-clause-untouched c = untouched

pub returns-clause-numbered : goal.returns-clause-numbered
returns-clause-numbered c pages page lsn records = numbered pages page (lsn + 1) records
