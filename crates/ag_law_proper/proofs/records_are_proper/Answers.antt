use Rattle.ag_law_proper.specs.Records.{RecordsAreProper}
use Rattle.ag_law_proper.proofs.Runs.{logs_have}
use Rattle.ag_law_proper.proofs.Both.{ProperLog, ProperLead, proper_law, proper_records}
use Rattle.ag_law_proper.proofs.records_are_proper.Goals as goal

pub returns : goal.returns
returns c = record { proper = λ config es h is. logs_have (RecordsAreProper config.pages) (ProperLog config.pages) (ProperLead config.pages) config es (proper_law config.pages) (proper_records config.pages) h is }
