use Rattle.ag_acts.proofs.CutLaws.{cut_same, told_answer, told_group}
use Rattle.ag_acts.proofs.laws.told_is_cut.Goals as goal

pub returns-clause-cut : goal.returns-clause-cut
returns-clause-cut c = cut_same

pub returns-clause-answer : goal.returns-clause-answer
returns-clause-answer c = told_answer

pub returns-clause-after : goal.returns-clause-after
returns-clause-after c = told_group
