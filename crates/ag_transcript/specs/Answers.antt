-- The texts of answers.
use Rattle.std.specs.Prelude.{ℕ, List, ◌++◌, codes}
use Rattle.std.specs.Fmt.{decimal}
use Rattle.ag_model.specs.declared.answer.Answer.{Answer}
use Rattle.ag_model.specs.declared.answer.Answer.TheVariants.{Txn, OwnRow, OwnAbsent, Lsn, Ended, Hardened, SyncAt, LocalAt, Sent, Lost, Applied, Raised, Front, Row, Absent, Snap, Closed}
use Rattle.ag_model.specs.declared.answer.Answer.TheVariants.{Reported, Flushed, Crashed, Started, Spoiled, Asked, Suspects, PageBad, Page, Sectors, Status, Cut, Mended, Joined, Resumed}
use Rattle.ag_model.specs.declared.answer.Answer.TheVariants.{Synchronised, TimedOut, Primary, Reverted, Hello, State, Known, Refused, Gave, Installed, Holding, NoPage, Stopped}
use Rattle.ag_model.specs.declared.answer.Answer.TheVariants.{DeviceFailed, No}
use Rattle.ag_transcript.specs.Words.{node_text, value_text, list_text, role_text, cell_text, version_text, suspect_text}
use Rattle.ag_transcript.specs.Refusals.{refusal_text}

-- an answer line without its end
abbrev pub answer_text : Answer → List ℕ
answer_text (Txn txn) = codes "txn " ++ decimal txn
answer_text (OwnRow value) = codes "row " ++ value_text value
answer_text OwnAbsent = codes "absent"
answer_text (Lsn lsn) = codes "lsn " ++ decimal lsn
answer_text Ended = codes "ended"
answer_text (Hardened lsn) = codes "hardened " ++ decimal lsn
answer_text (SyncAt lsn) = codes "sync " ++ decimal lsn
answer_text (LocalAt lsn) = codes "local " ++ decimal lsn
answer_text (Sent lsn) = codes "sent " ++ decimal lsn
answer_text Lost = codes "lost"
answer_text (Applied lsn) = codes "applied " ++ decimal lsn
answer_text (Raised lsn) = codes "raised " ++ decimal lsn
answer_text (Front lsn) = codes "front " ++ decimal lsn
answer_text (Row front value) = codes "row " ++ decimal front ++ codes " " ++ value_text value
answer_text (Absent front) = codes "absent " ++ decimal front
answer_text (Snap front) = codes "snap " ++ decimal front
answer_text Closed = codes "closed"
answer_text Reported = codes "reported"
answer_text (Flushed lsn) = codes "flushed " ++ decimal lsn
answer_text Crashed = codes "crashed"
answer_text (Started role term end front) = codes "started " ++ role_text role ++ codes " " ++ decimal term ++ codes " " ++ decimal end ++ codes " " ++ decimal front
answer_text Spoiled = codes "spoiled"
answer_text Asked = codes "asked"
answer_text (Suspects rows) = codes "suspects " ++ list_text suspect_text rows
answer_text PageBad = codes "page bad"
answer_text (Page lsn horizon versions) = codes "page " ++ decimal lsn ++ codes " " ++ decimal horizon ++ codes " " ++ list_text version_text versions
answer_text (Sectors cells) = codes "sectors " ++ list_text cell_text cells
answer_text (Status role state term end front) = codes "status " ++ role_text role ++ codes " " ++ decimal state ++ codes " " ++ decimal term ++ codes " " ++ decimal end ++ codes " " ++ decimal front
answer_text Cut = codes "cut"
answer_text Mended = codes "mended"
answer_text (Joined term primary) = codes "joined " ++ decimal term ++ codes " " ++ node_text primary
answer_text Resumed = codes "resumed"
answer_text Synchronised = codes "synchronised"
answer_text TimedOut = codes "timedout"
answer_text (Primary node term lsn) = codes "primary " ++ node_text node ++ codes " " ++ decimal term ++ codes " " ++ decimal lsn
answer_text (Reverted lsn) = codes "reverted " ++ decimal lsn
answer_text (Hello fork) = codes "hello " ++ decimal fork
answer_text (State state end) = codes "state " ++ decimal state ++ codes " " ++ decimal end
answer_text (Known lsn) = codes "known " ++ decimal lsn
answer_text (Refused page) = codes "refused " ++ decimal page
answer_text (Gave page lsn) = codes "gave " ++ decimal page ++ codes " " ++ decimal lsn
answer_text (Installed page lsn) = codes "installed " ++ decimal page ++ codes " " ++ decimal lsn
answer_text (Holding page lsn) = codes "holding " ++ decimal page ++ codes " " ++ decimal lsn
answer_text (NoPage page) = codes "nopage " ++ decimal page
answer_text (Stopped write step torn) = codes "stopped " ++ decimal write ++ codes " step=" ++ decimal step ++ codes " torn=" ++ list_text decimal torn
answer_text (DeviceFailed node step) = codes "device_failed " ++ node_text node ++ codes " step=" ++ decimal step
answer_text (No refusal) = codes "no " ++ refusal_text refusal
