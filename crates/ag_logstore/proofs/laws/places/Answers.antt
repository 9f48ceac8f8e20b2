use Rattle.ag_logstore.specs.Stored.{first_place, no_log}
use Rattle.ag_logstore.proofs.Chains.{ends_after, ends_first}
use Rattle.ag_logstore.proofs.laws.places.Goals as goal

pub returns-clause-sector : goal.returns-clause-sector
returns-clause-sector c = λ image cut incarnation bs st. (ends_after image cut incarnation first_place no_log bs st ends_first).sector

pub returns-clause-lsn : goal.returns-clause-lsn
returns-clause-lsn c = λ image cut incarnation bs st. (ends_after image cut incarnation first_place no_log bs st ends_first).lsn
