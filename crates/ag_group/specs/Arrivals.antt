-- What the arrival of a message gives, if there is one.
use Rattle.std.specs.Prelude.{◌≡◌, ℕ, ◌-◌, Bool, Option, Some, None, slice_get}
use Rattle.ag_model.specs.declared.event.Suffix.{Suffix}
use Rattle.ag_model.specs.declared.message.Message.{Message}
use Rattle.ag_model.specs.declared.answer.Answer.{Answer}
use Rattle.ag_rules.specs.Group.{Group, replica, with_replica, link}
use Rattle.ag_rules.specs.Plan.{Part, here}
use Rattle.ag_rules.specs.DeliverEvent.{message_part, leaves}
use Rattle.ag_built.specs.Built.{IsBuiltMessage}
use Rattle.ag_node.specs.Out.{posting_of}
use Rattle.ag_node.specs.Suffixes.{cut_part}

-- the node did this part, of which these are the answer and the reply
pub record IsDone (old new : Group) (n m : ℕ) (part : Part) (answer : Answer) (reply : Option Message) : Type 0 where
  pub answered : answer ≡ part.answer
  pub replied : posting_of n reply ≡ part.out
  pub left : new ≡ with_replica old m part.after

-- what a message from n does at m, as the suffix cuts it
abbrev pub cut_arrival : Group → ℕ → ℕ → Bool → Suffix → Message → Part
cut_arrival g n m full suffix message = cut_part g.config.pages m suffix (replica g m) (message_part (here g m) n (replica g m) full message)

-- no message has this number, or this one did its part at m, and stays in its place as it would without the suffix
abbrev pub IsArrival : Group → Group → ℕ → ℕ → ℕ → Bool → Suffix → Option (Answer × Option Message) → Type 0
IsArrival old new n m number full suffix None = (slice_get (link old n m) (number - 1) ≡ None) × (new ≡ old)
IsArrival old new n m number full suffix (Some told) =
    (message : Message) × (slice_get (link old n m) (number - 1) ≡ Some message) × IsBuiltMessage message × IsDone old new n m (cut_arrival old n m full suffix message) told.0 told.1
    × (leaves told.0 ≡ leaves (message_part (here old m) n (replica old m) full message).answer)
