-- Which refusals leave the group as it was.
use Rattle.std.specs.Prelude.{◌≡◌, Bool, true, false}
use Rattle.ag_model.specs.declared.event.Event.{Event}
use Rattle.ag_model.specs.declared.event.Event.TheVariants.{Deliver, Repeat}
use Rattle.ag_model.specs.declared.answer.Answer.{Answer}
use Rattle.ag_model.specs.declared.answer.Answer.TheVariants.{No}
use Rattle.ag_model.specs.declared.answer.Refusal.{Refusal}
use Rattle.ag_model.specs.declared.answer.Refusal.TheVariants.{Unreadable, Torn, NotNoted, Down, Nothing}

-- a page that is found bad becomes pending, and may be noted; any other refusal changes nothing at its node
abbrev pub leaves_node : Refusal → Bool
leaves_node (Unreadable p) = false
leaves_node (Torn p) = false
leaves_node (NotNoted p) = false
leaves_node _ = true

-- a message that comes to a node that is down, or is of no use there, is gone, and a block that is there already is acknowledged again
abbrev pub leaves_message : Refusal → Bool
leaves_message (Down n) = false
leaves_message Nothing = false
leaves_message why = leaves_node why

-- whether an event that is refused so leaves the group
abbrev pub leaves_group : Event → Refusal → Bool
leaves_group (Deliver w v i suffix) why = leaves_message why
leaves_group (Repeat w v i suffix) why = leaves_message why
leaves_group _ why = leaves_node why

-- the answer is a refusal that leaves the group
abbrev pub IsLeft : Event → Answer → Type 0
IsLeft e (No why) = leaves_group e why ≡ true
IsLeft e _ = ⊥
