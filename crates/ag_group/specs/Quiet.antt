-- Which of the events that are built write nothing, and which of these redo, read or look.
use Rattle.ag_model.specs.declared.event.Event.{Event}
use Rattle.ag_model.specs.declared.event.Event.TheVariants.{Set, Harden, Send, Deliver, Repeat, Lose, Apply, Raise, Redo, Flush, Crash, Start}

-- all but a `harden`, a delivery, a `flush` and a `start`
abbrev pub WritesNothing : Event → Type 0
WritesNothing (Harden w suffix) = ⊥
WritesNothing (Deliver w v i suffix) = ⊥
WritesNothing (Repeat w v i suffix) = ⊥
WritesNothing (Flush w suffix) = ⊥
WritesNothing (Start w suffix) = ⊥
WritesNothing _ = Unit {0}

-- such an event that redoes, reads or looks
abbrev pub FollowsOrLooks : Event → Type 0
FollowsOrLooks (Set w pairs suffix) = ⊥
FollowsOrLooks (Send w v suffix) = ⊥
FollowsOrLooks (Lose w v i suffix) = ⊥
FollowsOrLooks (Crash w suffix) = ⊥
FollowsOrLooks e = WritesNothing e

-- such an event that reads or looks
abbrev pub Looks : Event → Type 0
Looks (Apply w x suffix) = ⊥
Looks (Raise w x suffix) = ⊥
Looks (Redo w suffix) = ⊥
Looks e = FollowsOrLooks e
