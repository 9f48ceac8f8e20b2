use Rattle.std.proofs.Common.{sym, ◌∙◌}
use Rattle.ag_front.proofs.laws.rule_says.Goals as goal

pub returns-clause-replica : goal.returns-clause-replica
returns-clause-replica g c = λ count s r. (r.log, r.at, r.laid, λ j v e p. (r.each j v e p).seen)

pub returns-clause-one_holder : goal.returns-clause-one_holder
returns-clause-one_holder g c = λ count s r k i j v w l a b p q m n. sym ((r.each i v a p).held k l m).1 ∙ ((r.each j w b q).held k l n).1

pub returns-clause-parts : goal.returns-clause-parts
returns-clause-parts g c = λ count s r. r.shared
