-- What each event tells one replica to do.
use Rattle.std.specs.Prelude.{Option, Some, None, option_map, Bool, true, false}
use Rattle.ag_model.specs.declared.event.Who.{Who}
use Rattle.ag_model.specs.declared.event.Suffix.{Suffix}
use Rattle.ag_model.specs.declared.event.Event.{Event}
use Rattle.ag_model.specs.declared.event.Event.TheVariants.{Begin, Get, Put, Del, Commit, Rollback, Set, Trim, Harden, Ack, Send, Deliver, Repeat, Lose, Apply, Raise, Redo, Read, Snap, View}
use Rattle.ag_model.specs.declared.event.Event.TheVariants.{Close, Report, Flush, Crash, Start, Spoil, Unread, Ask, Suspects, Page, Sectors, Status, Cut, Mend, Join, Resume, Sync, Timeout}
use Rattle.ag_model.specs.declared.event.Event.TheVariants.{Planned, Auto, Force, Finish}
use Rattle.ag_acts.specs.declared.act.Act.{Act}
use Rattle.ag_acts.specs.declared.act.TransactAct.TheVariants as Transact
use Rattle.ag_acts.specs.declared.act.LeadAct.TheVariants as Lead
use Rattle.ag_acts.specs.declared.act.FollowAct.TheVariants as Follow
use Rattle.ag_acts.specs.declared.act.SessionAct.TheVariants as Session
use Rattle.ag_acts.specs.declared.act.LookAct.TheVariants as Look
use Rattle.ag_acts.specs.declared.act.DiskAct.TheVariants as Disk
use Rattle.ag_acts.specs.declared.act.MemberAct.TheVariants as Member
use Rattle.ag_acts.specs.declared.told.Told.{Told}

-- the replica of this word is told to do this, with this suffix
abbrev pub told : Who → Act → Suffix → Option Told
told w a suffix = Some (record { node = w; act = a; suffix = suffix })

-- what an event tells one replica to do, if it happens at one replica
abbrev pub told_of : Event → Option Told
told_of (Begin w suffix) = told w (Act.Transact Transact.Begin) suffix
told_of (Get w txn key suffix) = told w (Act.Transact (Transact.Get txn key)) suffix
told_of (Put w txn key value suffix) = told w (Act.Transact (Transact.Put txn key value)) suffix
told_of (Del w txn key suffix) = told w (Act.Transact (Transact.Del txn key)) suffix
told_of (Commit w txn suffix) = told w (Act.Transact (Transact.Commit txn)) suffix
told_of (Rollback w txn suffix) = told w (Act.Transact (Transact.Rollback txn)) suffix
told_of (Set w pairs suffix) = told w (Act.Transact (Transact.Set pairs)) suffix
told_of (Trim w p horizon suffix) = told w (Act.Lead (Lead.Trim p horizon)) suffix
told_of (Harden w suffix) = told w (Act.Lead Lead.Harden) suffix
told_of (Ack w lsn suffix) = told w (Act.Lead (Lead.Ack lsn)) suffix
told_of (Send w v suffix) = told w (Act.Lead (Lead.Send v)) suffix
told_of (Apply w x suffix) = told w (Act.Follow (Follow.Apply x)) suffix
told_of (Raise w x suffix) = told w (Act.Follow (Follow.Raise x)) suffix
told_of (Redo w suffix) = told w (Act.Follow Follow.Redo) suffix
told_of (Read w s key suffix) = told w (Act.Session (Session.Read s key)) suffix
told_of (Snap w s suffix) = told w (Act.Session (Session.Snap s)) suffix
told_of (View w s key suffix) = told w (Act.Session (Session.View s key)) suffix
told_of (Close w s suffix) = told w (Act.Session (Session.Close s)) suffix
told_of (Report w suffix) = told w (Act.Follow Follow.Report) suffix
told_of (Flush w suffix) = told w (Act.Disk Disk.Flush) suffix
told_of (Crash w suffix) = told w (Act.Disk Disk.Crash) suffix
told_of (Start w suffix) = told w (Act.Disk Disk.Start) suffix
told_of (Spoil w p x suffix) = told w (Act.Disk (Disk.Spoil p x)) suffix
told_of (Unread w p suffix) = told w (Act.Disk (Disk.Unread p)) suffix
told_of (Ask w p v suffix) = told w (Act.Member (Member.Ask p v)) suffix
told_of (Suspects w suffix) = told w (Act.Look Look.Suspects) suffix
told_of (Page w p suffix) = told w (Act.Look (Look.Page p)) suffix
told_of (Sectors w p suffix) = told w (Act.Look (Look.Sectors p)) suffix
told_of (Status w suffix) = told w (Act.Look Look.Status) suffix
told_of (Cut w suffix) = told w (Act.Member Member.Cut) suffix
told_of (Mend w suffix) = told w (Act.Member Member.Mend) suffix
told_of (Join w suffix) = told w (Act.Member Member.Join) suffix
told_of (Finish w suffix) = told w (Act.Member Member.Finish) suffix
told_of _ = None

-- the act of an event, if it happens at one replica
abbrev pub act_of : Event → Option Act
act_of e = option_map (λ t. t.act) (told_of e)

-- the word that names the replica of an event, if it happens at one replica
abbrev pub node_of : Event → Option Who
node_of e = option_map (λ t. t.node) (told_of e)

-- whether an event is one of the whole group: it takes a message of a link, or moves the store or other replicas
abbrev pub is_of_group : Event → Bool
is_of_group (Deliver w v i suffix) = true
is_of_group (Repeat w v i suffix) = true
is_of_group (Lose w v i suffix) = true
is_of_group (Resume w suffix) = true
is_of_group (Sync w v suffix) = true
is_of_group (Timeout w v suffix) = true
is_of_group (Planned w suffix) = true
is_of_group (Auto suffix) = true
is_of_group (Force w suffix) = true
is_of_group _ = false
