-- Worked examples: what events tell, what acts do at the opening of a group of two, and a part that is cut short.
use Rattle.std.proofs.Common.{◌≡◌, [], ◌∷◌, true, false, refl}
use Rattle.std.specs.Prelude.{Some, None}
use Rattle.ag_model.specs.declared.record.Record.TheVariants.{Term}
use Rattle.ag_model.specs.declared.config.Mode.TheVariants as Mode
use Rattle.ag_model.specs.declared.event.Who.TheVariants.{Letter, Primary}
use Rattle.ag_model.specs.declared.event.Event.TheVariants as E
use Rattle.ag_model.specs.declared.event.Suffix.{Suffix}
use Rattle.ag_model.specs.declared.event.Suffix.TheVariants.{Whole, Stop, Fail}
use Rattle.ag_model.specs.declared.answer.Answer.TheVariants.{No, Hardened, Stopped, DeviceFailed, Snap}
use Rattle.ag_model.specs.declared.answer.Refusal.TheVariants.{Nothing}
use Rattle.ag_model.specs.declared.message.Body.TheVariants.{Ack}
use Rattle.ag_rules.specs.Group.{Group, opening, opening_replica, replica}
use Rattle.ag_rules.specs.Plan.{Part, Posting, Block_write, here}
use Rattle.ag_rules.specs.CrashEvent.{crash_part}
use Rattle.ag_acts.specs.declared.act.Act.{Act}
use Rattle.ag_acts.specs.declared.act.TransactAct.TheVariants as Transact
use Rattle.ag_acts.specs.declared.act.LeadAct.TheVariants as Lead
use Rattle.ag_acts.specs.declared.act.FollowAct.TheVariants as Follow
use Rattle.ag_acts.specs.declared.act.SessionAct.TheVariants as Session
use Rattle.ag_acts.specs.declared.act.DiskAct.TheVariants as Disk
use Rattle.ag_acts.specs.declared.act.MemberAct.TheVariants as Member
use Rattle.ag_acts.specs.Acts.{told_of, act_of, node_of, is_of_group}
use Rattle.ag_acts.specs.Families.{transact_in, lead_in}
use Rattle.ag_acts.specs.Parts.{named_here, sends_to, asks_token, inputs_of, part_in, plan_of_act}
use Rattle.ag_acts.specs.Cuts.{cut_short, tokens_after, group_after}

-- `send A @ fail 2` tells A to send to the primary
sending : told_of (E.Send (Letter 0) Primary (Fail 2)) ≡ Some (record { node = Letter 0; act = Act.Lead (Lead.Send Primary); suffix = Fail 2 })
sending = refl

-- `ask @ 16 B` tells the primary to ask B
asking : told_of (E.Ask Primary 16 (Letter 1) Whole) ≡ Some (record { node = Primary; act = Act.Member (Member.Ask 16 (Letter 1)); suffix = Whole })
asking = refl

-- `deliver A B 1` and `auto` tell no replica
delivering : told_of (E.Deliver (Letter 0) (Letter 1) 1 Whole) ≡ None
delivering = refl

of_group : is_of_group (E.Auto Whole) ≡ true
of_group = refl

at_one : is_of_group (E.Report (Letter 1) Whole) ≡ false
at_one = refl

-- a commit is an act of a transaction, and of no other family
of_transaction : transact_in (act_of (E.Commit (Letter 0) 7 Whole)) ≡ Some (Transact.Commit 7)
of_transaction = refl

of_primary : lead_in (act_of (E.Commit (Letter 0) 7 Whole)) ≡ None
of_primary = refl

named : node_of (E.Commit Primary 7 Whole) ≡ Some Primary
named = refl

-- the opening of a group of two: A leads, and B follows it
abbrev group : Group
group = opening (record { pages = 16; modes = Mode.Auto ∷ Mode.Auto ∷ []; workers = 4; readers = 2 })

primary_here : named_here (here group 1) Primary ≡ 0
unfolding opening opening_replica
primary_here = refl

-- a report goes to the followed replica, a join to the primary of the store, and a redo to nobody
reports_to : sends_to (Act.Follow Follow.Report) (here group 1) (replica group 1) ≡ Some 0
unfolding opening opening_replica
reports_to = refl

joins_to : sends_to (Act.Member Member.Join) (here group 1) (replica group 1) ≡ Some 0
unfolding opening opening_replica
joins_to = refl

redoes_alone : sends_to (Act.Follow Follow.Redo) (here group 1) (replica group 1) ≡ None
redoes_alone = refl

-- a snapshot asks for its session's token, and giving it back doesn't
asks : asks_token (Act.Session (Session.Snap 3)) ≡ Some 3
asks = refl

closes : asks_token (Act.Session (Session.Close 3)) ≡ None
closes = refl

-- no link is full, and no session has seen anything
asked : inputs_of group 1 (Act.Session (Session.Read 3 16)) ≡ record { full = false; seen = record { term = 0; lsn = 0 } }
unfolding opening opening_replica
asked = refl

-- A sends nothing to itself
to_itself : (part_in group 0 (Act.Lead (Lead.Send Primary))).answer ≡ No Nothing
unfolding opening opening_replica
to_itself = refl

-- a crash takes down this replica
crashing : (replica (plan_of_act group 1 (Act.Disk Disk.Crash)).after 1).up ≡ false
unfolding opening opening_replica crash_part
crashing = refl

others_stay : (replica (plan_of_act group 1 (Act.Disk Disk.Crash)).after 0).up ≡ true
unfolding opening opening_replica crash_part
others_stay = refl

-- a message of A to B
abbrev posting : Posting
posting = record { to = 1; message = record { term = 1; body = Ack 1 1 } }

-- a part of A that writes a block of one record, sends a message and leaves the replica as it was
abbrev writes_block : Part
writes_block = record { answer = Hardened 2; writes = (Block_write (Term 2 ∷ []) ∷ []) ∷ []; out = posting ∷ []; after = replica group 0 }

-- this part with a suffix
abbrev with_suffix : Suffix → Part
with_suffix suffix = cut_short suffix (here group 0) (replica group 0) writes_block

-- the mask keeps the sector of the block, or it doesn't
kept_block : (with_suffix (Stop 1 1)).answer ≡ Stopped 1 1 []
unfolding opening opening_replica
kept_block = refl

lost_block : (with_suffix (Stop 1 0)).answer ≡ Stopped 1 0 []
unfolding opening opening_replica
lost_block = refl

-- the sync is the second call
failed_sync : (with_suffix (Fail 2)).answer ≡ DeviceFailed 0 0
unfolding opening opening_replica
failed_sync = refl

-- nothing is sent, and the replica is down
sends_nothing : (with_suffix (Fail 2)).out ≡ []
unfolding opening opening_replica
sends_nothing = refl

is_down : (with_suffix (Fail 2)).after.up ≡ false
unfolding opening opening_replica
is_down = refl

-- there is no second write and no third call
not_reached : with_suffix (Stop 2 1) ≡ writes_block
not_reached = refl

no_call : with_suffix (Fail 3) ≡ writes_block
no_call = refl

-- the message is in flight from A to B
in_flight : (group_after group 0 None writes_block).links ≡ ([] ∷ (posting.message ∷ []) ∷ []) ∷ ([] ∷ [] ∷ []) ∷ []
unfolding opening opening_replica
in_flight = refl

-- session 1 was answered a snapshot at LSN 5 in term 2
seen : tokens_after 2 (Snap 5) (Some 1) (None ∷ None ∷ []) ≡ None ∷ Some (record { term = 2; lsn = 5 }) ∷ []
seen = refl

-- what is no answer to a session leaves its token
unseen : tokens_after 2 (No Nothing) (Some 1) (None ∷ None ∷ []) ≡ None ∷ None ∷ []
unseen = refl
