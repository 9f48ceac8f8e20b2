use Rattle.ag_front.proofs.Keeps.{loads, raises, splits, joins}
use Rattle.ag_front.proofs.Giving.{gives_log, gives_stripe, takes_log}
use Rattle.ag_front.proofs.Taking.{takes_stripe}
use Rattle.ag_front.proofs.laws.steps_keep_the_rule.Goals as goal

pub returns-clause-load : goal.returns-clause-load
returns-clause-load g c = loads g.T.Stands.standing

pub returns-clause-raise : goal.returns-clause-raise
returns-clause-raise g c = raises g.T.Stands.standing

pub returns-clause-give_log : goal.returns-clause-give_log
returns-clause-give_log g c = gives_log g.T.Stands.standing

pub returns-clause-give_stripe : goal.returns-clause-give_stripe
returns-clause-give_stripe g c = gives_stripe g.T.Stands.standing

pub returns-clause-take_log : goal.returns-clause-take_log
returns-clause-take_log g c = takes_log g.T.Stands.standing

pub returns-clause-take_stripe : goal.returns-clause-take_stripe
returns-clause-take_stripe g c = takes_stripe g.T.Stands.standing

pub returns-clause-split : goal.returns-clause-split
returns-clause-split g c = splits g.T.Stands.standing

pub returns-clause-join : goal.returns-clause-join
returns-clause-join g c = joins g.T.Stands.standing
