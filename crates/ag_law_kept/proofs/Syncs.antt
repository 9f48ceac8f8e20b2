-- What was confirmed as synchronous is some of what was confirmed.
use Rattle.std.proofs.Common.{List, [], ◌∷◌}
use Rattle.std.specs.List.{AllByRecursion}
use Rattle.ag_model.specs.declared.event.Event.{Event}
use Rattle.ag_model.specs.declared.event.Event.TheVariants.{Ack}
use Rattle.ag_model.specs.declared.answer.Answer.{Answer}
use Rattle.ag_model.specs.declared.answer.Answer.TheVariants.{LocalAt}
use Rattle.ag_rules.specs.Replica.{Replica}
use Rattle.ag_rules.specs.Group.{Group, replica}
use Rattle.ag_rules.specs.Next.{named}
use Rattle.ag_rules.specs.Run.{Moment}
use Rattle.ag_rules.specs.KeptLaw.{Confirmed, confirmed_by, confirmed_at, confirmed_in}
use Rattle.ag_lists.proofs.Each.{all_append, all_left, all_right}
use Rattle.ag_laws.specs.Logs.{Logs}
use Rattle.ag_law_kept.specs.Past.{Past}
use Rattle.ag_law_kept.specs.Holds.{IsConfirmed, Holds}
use Rattle.ag_law_kept.specs.Local.{all_confirmed_by, all_confirmed_at, all_confirmed_in}

sync_by : (P : Confirmed → Type 0) (r : Replica) (a : Answer) → AllByRecursion P (all_confirmed_by r a) → AllByRecursion P (confirmed_by r a)
sync_by P r (LocalAt lsn) p = tt
sync_by P r a p = p

sync_at : (P : Confirmed → Type 0) (g : Group) (e : Event) (a : Answer) → AllByRecursion P (all_confirmed_at g e a) → AllByRecursion P (confirmed_at g e a)
sync_at P g (Ack w lsn suffix) a p = sync_by P (replica g (named g w)) a p
sync_at P g e a p = tt

sync_in : (P : Confirmed → Type 0) (ms : List Moment) → AllByRecursion P (all_confirmed_in ms) → AllByRecursion P (confirmed_in ms)
sync_in P [] p = tt
sync_in P (m ∷ ms) p =
    all_append P (confirmed_at m.before m.event m.answer) (confirmed_in ms)
    (sync_at P m.before m.event m.answer (all_left P (all_confirmed_at m.before m.event m.answer) (all_confirmed_in ms) p))
    (sync_in P ms (all_right P (all_confirmed_at m.before m.event m.answer) (all_confirmed_in ms) p))

-- so what holds with the one holds with the other
pub only_sync : (past : Past) (ms : List Moment) (logs : Logs) (g : Group) → Holds past (all_confirmed_in ms) logs g → Holds past (confirmed_in ms) logs g
only_sync past ms logs g h = record {
  asked = h.asked;
  knowing = h.knowing;
  states = h.states;
  leaders = h.leaders;
  messages = h.messages;
  members = h.members;
  takens = h.takens;
  targets = h.targets;
  commits = sync_in (IsConfirmed past logs g.register) ms h.commits;
}
