use Rattle.ag_suspect.proofs.Found.{same_read, same_had}
use Rattle.ag_suspect.proofs.laws.same_rows.Goals as goal

pub returns-clause-read : goal.returns-clause-read
returns-clause-read c = same_read

pub returns-clause-had : goal.returns-clause-had
returns-clause-had c = λ one two rows same h. same_had one two rows same h
