use Rattle.ag_repair.proofs.Events.{give_agrees, arrive_agrees}
use Rattle.ag_repair.proofs.laws.events_agree.Goals as goal

pub returns-clause-give : goal.returns-clause-give
returns-clause-give c = give_agrees

pub returns-clause-arrive : goal.returns-clause-arrive
returns-clause-arrive c = arrive_agrees
