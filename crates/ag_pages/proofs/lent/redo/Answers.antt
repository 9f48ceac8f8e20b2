use Rattle.ag_pages.proofs.lent.redo.Goals as goal

pub returns-clause-others : goal.returns-clause-others
returns-clause-others g c = rw (← c.lend-lent.ensures.table, c.take_back-stripe.ensures.table) c.redo-answer.ensures.others

pub returns-clause-dirty : goal.returns-clause-dirty
returns-clause-dirty g c = rw (← c.lend-lent.ensures.table, c.take_back-stripe.ensures.table) c.redo-answer.ensures.dirty

pub returns-clause-sound : goal.returns-clause-sound
returns-clause-sound g c = rw (← c.lend-lent.ensures.table, ← c.lend-lent.ensures.home) c.redo-answer.ensures.sound
