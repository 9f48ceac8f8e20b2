-- One step: the answers that are allowed, and the group after.
use Rattle.std.specs.Prelude.{◌≡◌}
use Rattle.ag_model.specs.declared.event.Event.{Event}
use Rattle.ag_model.specs.declared.answer.Answer.{Answer}
use Rattle.ag_rules.specs.Group.{Group}
use Rattle.ag_rules.specs.Next.{done}

-- the event may be answered so in this group
abbrev pub IsAllowed : Group → Event → Answer → Type 0
IsAllowed g e a = a ≡ (done g e).answer

-- the group after the event
abbrev pub next : Group → Event → Group
next g e = (done g e).after
