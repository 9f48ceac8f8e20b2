-- Which events have to leave the hardened logs proper.
use Rattle.std.specs.Prelude.{◌≡◌, ℕ, ◌-◌, Bool, Some, slice_get}
use Rattle.ag_model.specs.declared.event.Event.{Event}
use Rattle.ag_model.specs.declared.event.Event.TheVariants.{Harden, Deliver, Repeat}
use Rattle.ag_model.specs.declared.message.Message.{Message}
use Rattle.ag_rules.specs.Group.{Group, replica, link}
use Rattle.ag_rules.specs.Plan.{here, at_node}
use Rattle.ag_rules.specs.DeliverEvent.{message_part}
use Rattle.ag_rules.specs.Next.{plan_of}
use Rattle.ag_law_logs.specs.ProperRecords.{HardenedAreProper}

-- the message of a number from n to m, if there is one, leaves them proper
abbrev pub IsProperArrival : Group → ℕ → ℕ → ℕ → Bool → Type 0
IsProperArrival g n m number full =
    (message : Message) → slice_get (link g n m) (number - 1) ≡ Some message
    → HardenedAreProper g.config.pages (at_node g m (message_part (here g m) n (replica g m) full message)).after

-- an event that may harden a block leaves them proper, where nothing cuts it
abbrev pub LeavesProper : Group → Event → Type 0
LeavesProper g (Harden w suffix) = HardenedAreProper g.config.pages (plan_of g (Harden w suffix)).after
LeavesProper g (Deliver w v i suffix) = HardenedAreProper g.config.pages (plan_of g (Deliver w v i suffix)).after
LeavesProper g (Repeat w v i suffix) = HardenedAreProper g.config.pages (plan_of g (Repeat w v i suffix)).after
LeavesProper g _ = Unit {0}
