use Rattle.ag_acts.proofs.ToldLaws.{told_none, group_none, told_suffix, told_writer, told_before}
use Rattle.ag_acts.proofs.laws.told_exactly.Goals as goal

pub returns-clause-none : goal.returns-clause-none
returns-clause-none c e = (told_none e, group_none e)

pub returns-clause-suffix : goal.returns-clause-suffix
returns-clause-suffix c = told_suffix

pub returns-clause-writer : goal.returns-clause-writer
returns-clause-writer c = told_writer

pub returns-clause-before : goal.returns-clause-before
returns-clause-before c = told_before
