use Rattle.ag_threads_t.proofs.Logs.{opening_proper}
use Rattle.ag_threads_t.proofs.opening.opened.Goals as goal

pub begin_front-requires-clause-proper : goal.begin_front-requires-clause-proper
begin_front-requires-clause-proper g c = rw (c.in_ok-stripes.ensures.pages, c.in_ok-log.ensures) opening_proper
