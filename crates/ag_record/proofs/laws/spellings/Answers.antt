use Rattle.ag_record.proofs.Records.{spelling-once, length-spelling}
use Rattle.ag_record.proofs.Many.{records-once, length-records}
use Rattle.ag_record.proofs.laws.spellings.Goals as goal

pub returns-clause-apart : goal.returns-clause-apart
returns-clause-apart c = spelling-once

pub returns-clause-lists_apart : goal.returns-clause-lists_apart
returns-clause-lists_apart c = records-once

pub returns-clause-size : goal.returns-clause-size
returns-clause-size c = length-spelling

pub returns-clause-sizes : goal.returns-clause-sizes
returns-clause-sizes c = length-records
