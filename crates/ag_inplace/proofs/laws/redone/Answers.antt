use Rattle.std.proofs.Common.{subst}
use Rattle.ag_version.proofs.Redone.{redo_change, redo_commit, redo_abort, redo_trim}
use Rattle.ag_inplace.specs.Spelled.{Spells}
use Rattle.ag_inplace.proofs.Redoing.{due-below}
use Rattle.ag_inplace.proofs.laws.redone.Goals as goal

pub returns-clause-change : goal.returns-clause-change
returns-clause-change c = λ pages lsn txn key log change v image due h. subst (Spells image) (redo_change change pages lsn txn key log v due) h

pub returns-clause-commit : goal.returns-clause-commit
returns-clause-commit c = λ pages lsn txn listed log v image due h. subst (Spells image) (redo_commit pages lsn txn listed log v due) h

pub returns-clause-abort : goal.returns-clause-abort
returns-clause-abort c = λ pages lsn txn listed log v image due h. subst (Spells image) (redo_abort pages lsn txn listed log v due) h

pub returns-clause-trim : goal.returns-clause-trim
returns-clause-trim c = λ pages lsn horizon log v image due h. subst (Spells image) (redo_trim pages lsn horizon log v due) h

pub returns-clause-below : goal.returns-clause-below
returns-clause-below c = due-below
