-- What an act does at its replica, and in the group.
use Rattle.std.specs.Prelude.{ℕ, Bool, false, Option, Some, None, ◌==◌, if◌then◌else◌}
use Rattle.ag_model.specs.declared.value.Change.TheVariants.{Put as PutChange, Del as DelChange}
use Rattle.ag_model.specs.declared.config.Token.{Token}
use Rattle.ag_model.specs.declared.event.Who.{Who}
use Rattle.ag_model.specs.declared.event.Who.TheVariants.{Letter, Primary}
use Rattle.ag_model.specs.declared.answer.Refusal.TheVariants.{Nothing}
use Rattle.ag_rules.specs.Replica.{Replica}
use Rattle.ag_rules.specs.Group.{Group, replica, is_full}
use Rattle.ag_rules.specs.Plan.{Part, Plan, Here, here, at_node, refused}
use Rattle.ag_rules.specs.Checks.{token_or_none}
use Rattle.ag_rules.specs.Next.{session_of, at_session}
use Rattle.ag_rules.specs.BeginEvent.{begin_part}
use Rattle.ag_rules.specs.GetEvent.{get_part}
use Rattle.ag_rules.specs.PutEvent.{put_part}
use Rattle.ag_rules.specs.CommitEvent.{commit_part, rollback_part}
use Rattle.ag_rules.specs.SetEvent.{set_part}
use Rattle.ag_rules.specs.TrimEvent.{trim_part}
use Rattle.ag_rules.specs.HardenEvent.{harden_part}
use Rattle.ag_rules.specs.AckEvent.{ack_part}
use Rattle.ag_rules.specs.SendEvent.{send_part}
use Rattle.ag_rules.specs.ApplyEvent.{apply_part}
use Rattle.ag_rules.specs.RaiseEvent.{raise_part}
use Rattle.ag_rules.specs.RedoEvent.{redo_part}
use Rattle.ag_rules.specs.ReadEvent.{read_part, view_part}
use Rattle.ag_rules.specs.SnapEvent.{snap_part, close_part}
use Rattle.ag_rules.specs.ReportEvent.{report_part}
use Rattle.ag_rules.specs.FlushEvent.{flush_part}
use Rattle.ag_rules.specs.CrashEvent.{crash_part}
use Rattle.ag_rules.specs.StartEvent.{start_part}
use Rattle.ag_rules.specs.SpoilEvent.{spoil_part, unread_part}
use Rattle.ag_rules.specs.AskEvent.{ask_part}
use Rattle.ag_rules.specs.LookEvent.{suspects_part, page_part, sectors_part, status_part}
use Rattle.ag_rules.specs.CutEvent.{cut_part, mend_part}
use Rattle.ag_rules.specs.JoinEvent.{join_part}
use Rattle.ag_rules.specs.FinishEvent.{finish_part}
use Rattle.ag_acts.specs.declared.act.Act.{Act}
use Rattle.ag_acts.specs.declared.act.TransactAct.{TransactAct}
use Rattle.ag_acts.specs.declared.act.TransactAct.TheVariants as Transact
use Rattle.ag_acts.specs.declared.act.LeadAct.{LeadAct}
use Rattle.ag_acts.specs.declared.act.LeadAct.TheVariants as Lead
use Rattle.ag_acts.specs.declared.act.FollowAct.{FollowAct}
use Rattle.ag_acts.specs.declared.act.FollowAct.TheVariants as Follow
use Rattle.ag_acts.specs.declared.act.SessionAct.{SessionAct}
use Rattle.ag_acts.specs.declared.act.SessionAct.TheVariants as Session
use Rattle.ag_acts.specs.declared.act.LookAct.{LookAct}
use Rattle.ag_acts.specs.declared.act.LookAct.TheVariants as Look
use Rattle.ag_acts.specs.declared.act.DiskAct.{DiskAct}
use Rattle.ag_acts.specs.declared.act.DiskAct.TheVariants as Disk
use Rattle.ag_acts.specs.declared.act.MemberAct.{MemberAct}
use Rattle.ag_acts.specs.declared.act.MemberAct.TheVariants as Member

-- what an act asks of the group beside its place: whether the link that it sends on is full, and what its session has seen
pub record Inputs : Type 0 where
  pub full : Bool
  pub seen : Token

-- the replica that a word names, where the act is done
abbrev pub named_here : Here → Who → ℕ
named_here h (Letter n) = n
named_here h Primary = h.store.primary

-- a part that is done with replica m, and nothing where that is this one
abbrev pub with_other : Here → Replica → ℕ → Part → Part
with_other h r m part = if h.number == m then refused Nothing r else part

-- of a transaction at a primary
abbrev pub transact_part : TransactAct → Here → Replica → Part
transact_part Transact.Begin h r = begin_part h r
transact_part (Transact.Get txn key) h r = get_part h r txn key
transact_part (Transact.Put txn key value) h r = put_part h r txn key (PutChange value)
transact_part (Transact.Del txn key) h r = put_part h r txn key DelChange
transact_part (Transact.Commit txn) h r = commit_part h r txn
transact_part (Transact.Rollback txn) h r = rollback_part h r txn
transact_part (Transact.Set pairs) h r = set_part h r pairs

-- of a primary, with its log and its secondaries
abbrev pub lead_part : LeadAct → Inputs → Here → Replica → Part
lead_part (Lead.Trim p horizon) i h r = trim_part h r p horizon
lead_part Lead.Harden i h r = harden_part h r
lead_part (Lead.Ack lsn) i h r = ack_part h r lsn
lead_part (Lead.Send v) i h r = with_other h r (named_here h v) (send_part h r (named_here h v) i.full)

-- of a secondary that redoes its log
abbrev pub follow_part : FollowAct → Inputs → Here → Replica → Part
follow_part (Follow.Apply x) i h r = apply_part h r x
follow_part (Follow.Raise x) i h r = raise_part h r x
follow_part Follow.Redo i h r = redo_part h r
follow_part Follow.Report i h r = report_part h r i.full

-- of a session at a secondary
abbrev pub session_part : SessionAct → Inputs → Here → Replica → Part
session_part (Session.Read s key) i h r = read_part h r i.seen key
session_part (Session.Snap s) i h r = snap_part h r i.seen s
session_part (Session.View s key) i h r = view_part h r i.seen s key
session_part (Session.Close s) i h r = close_part h r s

-- a look at a replica
abbrev pub look_part : LookAct → Here → Replica → Part
look_part Look.Suspects h r = suspects_part h r
look_part (Look.Page p) h r = page_part h r p
look_part (Look.Sectors p) h r = sectors_part r p
look_part Look.Status h r = status_part h r

-- of a replica with its disk
abbrev pub disk_part : DiskAct → Here → Replica → Part
disk_part Disk.Flush h r = flush_part h r
disk_part Disk.Crash h r = crash_part h r
disk_part Disk.Start h r = start_part h r
disk_part (Disk.Spoil p x) h r = spoil_part r p x
disk_part (Disk.Unread p) h r = unread_part r p

-- of a replica among the others
abbrev pub member_part : MemberAct → Inputs → Here → Replica → Part
member_part Member.Cut i h r = cut_part h r
member_part Member.Mend i h r = mend_part h r
member_part Member.Join i h r = join_part h r i.full
member_part Member.Finish i h r = finish_part h r i.full
member_part (Member.Ask p v) i h r = with_other h r (named_here h v) (ask_part h r p (named_here h v) i.full)

-- what an act does at a place, to a replica
abbrev pub part_of : Act → Inputs → Here → Replica → Part
part_of (Act.Transact a) i h r = transact_part a h r
part_of (Act.Lead a) i h r = lead_part a i h r
part_of (Act.Follow a) i h r = follow_part a i h r
part_of (Act.Session a) i h r = session_part a i h r
part_of (Act.Look a) i h r = look_part a h r
part_of (Act.Disk a) i h r = disk_part a h r
part_of (Act.Member a) i h r = member_part a i h r

-- the replica to which an act sends, if it sends
abbrev pub sends_to : Act → Here → Replica → Option ℕ
sends_to (Act.Lead (Lead.Send v)) h r = Some (named_here h v)
sends_to (Act.Follow Follow.Report) h r = Some r.following.follows
sends_to (Act.Member Member.Join) h r = Some h.store.primary
sends_to (Act.Member Member.Finish) h r = Some r.following.follows
sends_to (Act.Member (Member.Ask p v)) h r = Some (named_here h v)
sends_to _ h r = None

-- the session whose token an act asks for, and whose answer may set it
abbrev pub asks_token : Act → Option ℕ
asks_token (Act.Session (Session.Read s key)) = Some s
asks_token (Act.Session (Session.Snap s)) = Some s
asks_token (Act.Session (Session.View s key)) = Some s
asks_token _ = None

-- whether the link from replica n to this one is full, if there is one
abbrev pub is_full_to : Group → ℕ → Option ℕ → Bool
is_full_to g n (Some m) = is_full g n m
is_full_to g n None = false

-- what the session has seen, if there is one
abbrev pub seen_by : Group → Option ℕ → Token
seen_by g (Some s) = token_or_none (session_of g s)
seen_by g None = token_or_none None

-- what an act at replica n asks of the group
abbrev pub inputs_of : Group → ℕ → Act → Inputs
inputs_of g n a = record { full = is_full_to g n (sends_to a (here g n) (replica g n)); seen = seen_by g (asks_token a) }

-- a part of replica n in the group, for a session if there is one
abbrev pub for_session : Group → ℕ → Option ℕ → Part → Plan
for_session g n (Some s) part = at_session g n s part
for_session g n None part = at_node g n part

-- what an act does at replica n of the group
abbrev pub part_in : Group → ℕ → Act → Part
part_in g n a = part_of a (inputs_of g n a) (here g n) (replica g n)

-- what an act at replica n does in the group
abbrev pub plan_of_act : Group → ℕ → Act → Plan
plan_of_act g n a = for_session g n (asks_token a) (part_in g n a)
