-- A commit that the primary alone confirms: refused while it stands in the buffer, kept by a safe failover once it is hardened.
use Rattle.std.proofs.Common.{◌≡◌, List, [], ◌∷◌, replicate, true, refl}
use Rattle.std.specs.Prelude.{Some, slice_get}
use Rattle.std.specs.List.{list_any}
use Rattle.ag_model.specs.declared.value.Value.{Value}
use Rattle.ag_model.specs.declared.config.Config.{Config}
use Rattle.ag_model.specs.declared.config.Mode.TheVariants as M
use Rattle.ag_model.specs.declared.event.Event.{Event}
use Rattle.ag_model.specs.declared.event.Event.TheVariants as E
use Rattle.ag_model.specs.declared.event.Who.TheVariants as W
use Rattle.ag_model.specs.declared.event.Suffix.TheVariants as S
use Rattle.ag_model.specs.declared.answer.Answer.{Answer}
use Rattle.ag_model.specs.declared.answer.Answer.TheVariants as A
use Rattle.ag_model.specs.declared.answer.Refusal.TheVariants as R
use Rattle.ag_model.specs.declared.answer.Role.TheVariants as O
use Rattle.ag_model.specs.declared.record.Record.TheVariants as D
use Rattle.ag_rules.specs.Run.{run, answers_of}
use Rattle.ag_rules.specs.KeptLaw.{is_safe_into, starts_at}
use Rattle.ag_model.specs.Cells.{mark_after}
use Rattle.ag_model.specs.Page.{value, pick}
use Rattle.ag_model.specs.Rows.{committed, rows}
use Rattle.ag_model.specs.Starts.{fork_of_starts, fork}
use Rattle.ag_rules.specs.Access.{access}
use Rattle.ag_rules.specs.AckEvent.{ack_part}
use Rattle.ag_rules.specs.AckMessage.{ack_message_part}
use Rattle.ag_rules.specs.ApplyEvent.{apply_part}
use Rattle.ag_rules.specs.AskEvent.{ask_part}
use Rattle.ag_rules.specs.BeginEvent.{begin_part}
use Rattle.ag_rules.specs.BlockMessage.{block_part}
use Rattle.ag_rules.specs.CommitEvent.{end_part}
use Rattle.ag_rules.specs.CrashEvent.{crash_part}
use Rattle.ag_rules.specs.CutEvent.{cut_part, mend_part}
use Rattle.ag_rules.specs.DeliverEvent.{plan_of_deliver, plan_of_lose}
use Rattle.ag_rules.specs.Failover.{plan_of_planned, plan_of_force, plan_of_auto}
use Rattle.ag_rules.specs.FinishEvent.{finish_part}
use Rattle.ag_rules.specs.FlushEvent.{by_eights, flush_part}
use Rattle.ag_rules.specs.GetEvent.{get_part}
use Rattle.ag_rules.specs.Group.{opening_replica, opening}
use Rattle.ag_rules.specs.HardenEvent.{harden_part}
use Rattle.ag_rules.specs.HelloMessage.{hello_part}
use Rattle.ag_rules.specs.JoinEvent.{join_part}
use Rattle.ag_rules.specs.LookEvent.{suspects_part, page_part, sectors_part, status_part}
use Rattle.ag_rules.specs.Next.{done}
use Rattle.ag_rules.specs.PageAskMessage.{page_ask_part}
use Rattle.ag_rules.specs.PageGiveMessage.{page_give_part}
use Rattle.ag_rules.specs.Promotion.{promotion_records, blocks_of}
use Rattle.ag_rules.specs.PutEvent.{put_part}
use Rattle.ag_rules.specs.RaiseEvent.{raise_part}
use Rattle.ag_rules.specs.ReadEvent.{read_part, view_part}
use Rattle.ag_rules.specs.RedoEvent.{redo_part}
use Rattle.ag_rules.specs.ReportEvent.{report_part}
use Rattle.ag_rules.specs.ResumeEvent.{plan_of_resume}
use Rattle.ag_rules.specs.ResumeMessage.{resume_message_part}
use Rattle.ag_rules.specs.SendEvent.{send_part}
use Rattle.ag_rules.specs.SetEvent.{set_part}
use Rattle.ag_rules.specs.SnapEvent.{snap_part, close_part}
use Rattle.ag_rules.specs.SpoilEvent.{spoil_part, unread_part}
use Rattle.ag_rules.specs.StartEvent.{start_part}
use Rattle.ag_rules.specs.SyncEvent.{plan_of_sync, plan_of_timeout}
use Rattle.ag_rules.specs.TermLog.{term_log}
use Rattle.ag_rules.specs.TrimEvent.{trim_part}

abbrev v0 : Value
v0 = record { len = 1; bytes = 170 ∷ (replicate 63 0) }

abbrev config : Config
config = record { pages = 16; modes = M.Auto ∷ M.Auto ∷ []; workers = 4; readers = 2 }

-- nobody is waited for, and the commit is in the buffer alone; B is waited for again; A crashes, and B takes over
abbrev lost : List Event
lost =
    E.Timeout (W.Letter 0) (W.Letter 1) S.Whole ∷
    E.Set (W.Letter 0) (record { key = 5; value = v0 } ∷ []) S.Whole ∷
    E.Ack (W.Letter 0) 3 S.Whole ∷
    E.Join (W.Letter 1) S.Whole ∷
    E.Deliver (W.Letter 1) (W.Letter 0) 1 S.Whole ∷
    E.Deliver (W.Letter 0) (W.Letter 1) 1 S.Whole ∷
    E.Sync (W.Letter 0) (W.Letter 1) S.Whole ∷
    E.Crash (W.Letter 0) S.Whole ∷
    E.Auto S.Whole ∷
    E.Start (W.Letter 0) S.Whole ∷
    []

-- A itself is late, so nothing was confirmed that the failover could lose
abbrev answers_of_lost : List Answer
answers_of_lost =
    A.TimedOut ∷
    A.Lsn 3 ∷
    A.No (R.NotYet 3 0) ∷
    A.Joined 1 0 ∷
    A.Hello 1 ∷
    A.State 1 1 ∷
    A.Synchronised ∷
    A.Crashed ∷
    A.Primary 1 2 2 ∷
    A.Started O.Secondary 1 1 1 ∷
    []

lost_holds : answers_of config lost ≡ answers_of_lost
unfolding mark_after value pick committed rows fork_of_starts fork access ack_part ack_message_part apply_part ask_part begin_part block_part end_part crash_part cut_part mend_part plan_of_deliver plan_of_lose plan_of_planned plan_of_force plan_of_auto finish_part by_eights flush_part get_part opening_replica opening harden_part hello_part join_part suspects_part page_part sectors_part status_part done page_ask_part page_give_part promotion_records blocks_of put_part raise_part read_part view_part redo_part report_part plan_of_resume resume_message_part send_part set_part snap_part close_part spoil_part unread_part start_part plan_of_sync plan_of_timeout term_log trim_part
lost_holds = refl

-- the failover was safe, and the commit is in no log
lost_is_safe : list_any (is_safe_into 2) (run config lost) ≡ true
unfolding mark_after value pick committed rows fork_of_starts fork access ack_part ack_message_part apply_part ask_part begin_part block_part end_part crash_part cut_part mend_part plan_of_deliver plan_of_lose plan_of_planned plan_of_force plan_of_auto finish_part by_eights flush_part get_part opening_replica opening harden_part hello_part join_part suspects_part page_part sectors_part status_part done page_ask_part page_give_part promotion_records blocks_of put_part raise_part read_part view_part redo_part report_part plan_of_resume resume_message_part send_part set_part snap_part close_part spoil_part unread_part start_part plan_of_sync plan_of_timeout term_log trim_part
lost_is_safe = refl

lost_logs : (term_log (run config lost) 1 ≡ D.Term 1 ∷ []) × (term_log (run config lost) 2 ≡ D.Term 1 ∷ D.Term 2 ∷ [])
unfolding mark_after value pick committed rows fork_of_starts fork access ack_part ack_message_part apply_part ask_part begin_part block_part end_part crash_part cut_part mend_part plan_of_deliver plan_of_lose plan_of_planned plan_of_force plan_of_auto finish_part by_eights flush_part get_part opening_replica opening harden_part hello_part join_part suspects_part page_part sectors_part status_part done page_ask_part page_give_part promotion_records blocks_of put_part raise_part read_part view_part redo_part report_part plan_of_resume resume_message_part send_part set_part snap_part close_part spoil_part unread_part start_part plan_of_sync plan_of_timeout term_log trim_part
lost_logs = (refl, refl)

-- the same, but the commit is hardened before it is confirmed
abbrev kept : List Event
kept =
    E.Timeout (W.Letter 0) (W.Letter 1) S.Whole ∷
    E.Set (W.Letter 0) (record { key = 5; value = v0 } ∷ []) S.Whole ∷
    E.Harden (W.Letter 0) S.Whole ∷
    E.Ack (W.Letter 0) 3 S.Whole ∷
    E.Join (W.Letter 1) S.Whole ∷
    E.Deliver (W.Letter 1) (W.Letter 0) 1 S.Whole ∷
    E.Deliver (W.Letter 0) (W.Letter 1) 1 S.Whole ∷
    E.Sync (W.Letter 0) (W.Letter 1) S.Whole ∷
    E.Send (W.Letter 0) (W.Letter 1) S.Whole ∷
    E.Deliver (W.Letter 0) (W.Letter 1) 1 S.Whole ∷
    E.Deliver (W.Letter 1) (W.Letter 0) 1 S.Whole ∷
    E.Sync (W.Letter 0) (W.Letter 1) S.Whole ∷
    E.Crash (W.Letter 0) S.Whole ∷
    E.Auto S.Whole ∷
    []

-- B is waited for again only once it has the commit
abbrev answers_of_kept : List Answer
answers_of_kept =
    A.TimedOut ∷
    A.Lsn 3 ∷
    A.Hardened 3 ∷
    A.LocalAt 3 ∷
    A.Joined 1 0 ∷
    A.Hello 1 ∷
    A.State 1 1 ∷
    A.No (R.NotYet 3 1) ∷
    A.Sent 3 ∷
    A.Hardened 3 ∷
    A.Known 3 ∷
    A.Synchronised ∷
    A.Crashed ∷
    A.Primary 1 2 4 ∷
    []

kept_holds : answers_of config kept ≡ answers_of_kept
unfolding mark_after value pick committed rows fork_of_starts fork access ack_part ack_message_part apply_part ask_part begin_part block_part end_part crash_part cut_part mend_part plan_of_deliver plan_of_lose plan_of_planned plan_of_force plan_of_auto finish_part by_eights flush_part get_part opening_replica opening harden_part hello_part join_part suspects_part page_part sectors_part status_part done page_ask_part page_give_part promotion_records blocks_of put_part raise_part read_part view_part redo_part report_part plan_of_resume resume_message_part send_part set_part snap_part close_part spoil_part unread_part start_part plan_of_sync plan_of_timeout term_log trim_part
kept_holds = refl

-- the commit stands in the log of term 2, before its start
kept_is_safe : list_any (is_safe_into 2) (run config kept) ≡ true
unfolding mark_after value pick committed rows fork_of_starts fork access ack_part ack_message_part apply_part ask_part begin_part block_part end_part crash_part cut_part mend_part plan_of_deliver plan_of_lose plan_of_planned plan_of_force plan_of_auto finish_part by_eights flush_part get_part opening_replica opening harden_part hello_part join_part suspects_part page_part sectors_part status_part done page_ask_part page_give_part promotion_records blocks_of put_part raise_part read_part view_part redo_part report_part plan_of_resume resume_message_part send_part set_part snap_part close_part spoil_part unread_part start_part plan_of_sync plan_of_timeout term_log trim_part
kept_is_safe = refl

kept_stands : (slice_get (term_log (run config kept) 2) 2 ≡ Some (D.Commit 1 (21 ∷ []))) × (starts_at 2 (term_log (run config kept) 2) ≡ record { term = 2; lsn = 4 } ∷ [])
unfolding mark_after value pick committed rows fork_of_starts fork access ack_part ack_message_part apply_part ask_part begin_part block_part end_part crash_part cut_part mend_part plan_of_deliver plan_of_lose plan_of_planned plan_of_force plan_of_auto finish_part by_eights flush_part get_part opening_replica opening harden_part hello_part join_part suspects_part page_part sectors_part status_part done page_ask_part page_give_part promotion_records blocks_of put_part raise_part read_part view_part redo_part report_part plan_of_resume resume_message_part send_part set_part snap_part close_part spoil_part unread_part start_part plan_of_sync plan_of_timeout term_log trim_part
kept_stands = (refl, refl)
