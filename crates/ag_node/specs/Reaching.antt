-- What an event does that makes one write of the log or the master, and comes so far.
use Rattle.std.specs.Prelude.{ℕ, [], Bool, if◌then◌else◌}
use Rattle.ag_model.specs.declared.answer.Answer.TheVariants.{Stopped, DeviceFailed}
use Rattle.ag_rules.specs.Replica.{Replica, Kept, fallen}
use Rattle.ag_rules.specs.Plan.{Part, Write, at_once, written}
use Rattle.ag_kept.specs.declared.reach.Reach.{Reach}
use Rattle.ag_kept.specs.declared.reach.Reach.TheVariants.{End, Stop, Fault}

-- what is on the disk of a replica whose write is stopped
abbrev pub kept_of_write : Bool → Kept → Write → Kept
kept_of_write whole k w = if whole then written k w else k

-- what replica n does that comes so far with its part, which writes this alone
abbrev pub part_reached : ℕ → Replica → Part → Write → Reach → Part
part_reached n r part w End = part
part_reached n r part w (Stop whole) = at_once (Stopped 1 (if whole then 1 else 0) []) (fallen r (kept_of_write whole r.kept w))
part_reached n r part w Fault = at_once (DeviceFailed n 0) (fallen r r.kept)
