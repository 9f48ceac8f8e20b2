-- The families of acts.
use Rattle.std.specs.Prelude.{Option, Some, None}
use Rattle.ag_acts.specs.declared.act.Act.{Act}
use Rattle.ag_acts.specs.declared.act.Act.TheVariants.{Transact, Lead, Follow, Session, Look, Disk, Member}
use Rattle.ag_acts.specs.declared.act.TransactAct.{TransactAct}
use Rattle.ag_acts.specs.declared.act.LeadAct.{LeadAct}
use Rattle.ag_acts.specs.declared.act.FollowAct.{FollowAct}
use Rattle.ag_acts.specs.declared.act.SessionAct.{SessionAct}
use Rattle.ag_acts.specs.declared.act.LookAct.{LookAct}
use Rattle.ag_acts.specs.declared.act.DiskAct.{DiskAct}
use Rattle.ag_acts.specs.declared.act.MemberAct.{MemberAct}

-- the act, if it is one of a transaction
abbrev pub transact_in : Option Act → Option TransactAct
transact_in (Some (Transact a)) = Some a
transact_in _ = None

-- the act, if it is one of a primary with its log and its secondaries
abbrev pub lead_in : Option Act → Option LeadAct
lead_in (Some (Lead a)) = Some a
lead_in _ = None

-- the act, if it is one of a secondary that redoes its log
abbrev pub follow_in : Option Act → Option FollowAct
follow_in (Some (Follow a)) = Some a
follow_in _ = None

-- the act, if it is one of a session
abbrev pub session_in : Option Act → Option SessionAct
session_in (Some (Session a)) = Some a
session_in _ = None

-- the act, if it is a look
abbrev pub look_in : Option Act → Option LookAct
look_in (Some (Look a)) = Some a
look_in _ = None

-- the act, if it is one of a replica with its disk
abbrev pub disk_in : Option Act → Option DiskAct
disk_in (Some (Disk a)) = Some a
disk_in _ = None

-- the act, if it is one of a replica among the others
abbrev pub member_in : Option Act → Option MemberAct
member_in (Some (Member a)) = Some a
member_in _ = None
