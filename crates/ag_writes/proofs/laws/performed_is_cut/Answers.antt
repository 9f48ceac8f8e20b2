use Rattle.std.proofs.Common.{[], ap, ◌∙◌}
use Rattle.ag_rules.specs.Plan.{Plan}
use Rattle.ag_rules.specs.Cut.{disk_before}
use Rattle.ag_writes.specs.Performing.{order_of, performed}
use Rattle.ag_writes.proofs.Ends.{cut_is_performed, answer_is, all_through}
use Rattle.ag_writes.proofs.laws.performed_is_cut.Goals as goal

pub returns-clause-cut : goal.returns-clause-cut
returns-clause-cut c = cut_is_performed

pub returns-clause-answer : goal.returns-clause-answer
returns-clause-answer c suffix p = ap (λ (q : Plan). q.answer) (cut_is_performed suffix p) ∙ answer_is p (performed suffix p)

pub returns-clause-through : goal.returns-clause-through
returns-clause-through c suffix p done e = all_through (record { order = order_of suffix; kept = disk_before p; steps = 0; writes = 0; named = [] }) p.writes done e
