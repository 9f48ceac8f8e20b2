-- The four laws on some worked rows, by computation: that the statements say what they are meant to.
use Rattle.std.proofs.Common.{◌≡◌, ℕ, ◌≤◌, List, [], ◌∷◌, take, length, Bool, true, false, refl, map, arith}
use Rattle.std.specs.Prelude.{Some, slice_get}
use Rattle.ag_model.specs.Sizes.{record_size}
use Rattle.std.specs.List.{AllByRecursion, flat_map}
use Rattle.ag_model.specs.declared.value.Row.{Row}
use Rattle.ag_model.specs.declared.record.Record.{Record}
use Rattle.ag_model.specs.declared.record.Record.TheVariants as D
use Rattle.ag_rules.specs.Replica.{records, all_at}
use Rattle.ag_rules.specs.Run.{Moment, run}
use Rattle.ag_rules.specs.Seen.{rows_seen, lsns_seen}
use Rattle.ag_rules.specs.ReadsRight.{ReadsRight}
use Rattle.ag_rules.specs.SessionLaw.{SessionLaw}
use Rattle.ag_rules.specs.KeptLaw.{to_keep, last_confirmed, starts_at}
use Rattle.ag_rules.specs.RevertedLaw.{returns}
use Rattle.ag_examples.proofs.PlainCase as One
use Rattle.ag_examples.proofs.Reverting as Fifteen
use Rattle.ag_examples.proofs.ChainOfForced as Sixteen
use Rattle.ag_examples.proofs.SessionMoves as Seventeen
use Rattle.ag_examples.proofs.AutomaticFailover as TwentyTwo
use Rattle.ag_model.specs.Cells.{mark_after}
use Rattle.ag_model.specs.Page.{value, pick}
use Rattle.ag_model.specs.Rows.{committed, rows}
use Rattle.ag_model.specs.Starts.{fork_of_starts, fork}
use Rattle.ag_rules.specs.Access.{access}
use Rattle.ag_rules.specs.AckEvent.{ack_part}
use Rattle.ag_rules.specs.AckMessage.{ack_message_part}
use Rattle.ag_rules.specs.ApplyEvent.{apply_part}
use Rattle.ag_rules.specs.AskEvent.{ask_part}
use Rattle.ag_rules.specs.BeginEvent.{begin_part}
use Rattle.ag_rules.specs.BlockMessage.{block_part}
use Rattle.ag_rules.specs.CommitEvent.{end_part}
use Rattle.ag_rules.specs.CrashEvent.{crash_part}
use Rattle.ag_rules.specs.CutEvent.{cut_part, mend_part}
use Rattle.ag_rules.specs.DeliverEvent.{plan_of_deliver, plan_of_lose}
use Rattle.ag_rules.specs.Failover.{plan_of_planned, plan_of_force, plan_of_auto}
use Rattle.ag_rules.specs.FinishEvent.{finish_part}
use Rattle.ag_rules.specs.FlushEvent.{by_eights, flush_part}
use Rattle.ag_rules.specs.GetEvent.{get_part}
use Rattle.ag_rules.specs.Group.{opening_replica, opening}
use Rattle.ag_rules.specs.HardenEvent.{harden_part}
use Rattle.ag_rules.specs.HelloMessage.{hello_part}
use Rattle.ag_rules.specs.JoinEvent.{join_part}
use Rattle.ag_rules.specs.LookEvent.{suspects_part, page_part, sectors_part, status_part}
use Rattle.ag_rules.specs.Next.{done}
use Rattle.ag_rules.specs.PageAskMessage.{page_ask_part}
use Rattle.ag_rules.specs.PageGiveMessage.{page_give_part}
use Rattle.ag_rules.specs.Plan.{at_once, sending, writing, unless, first_case, at_node}
use Rattle.ag_rules.specs.Promotion.{promotion_records, blocks_of}
use Rattle.ag_rules.specs.PutEvent.{put_part}
use Rattle.ag_rules.specs.RaiseEvent.{raise_part}
use Rattle.ag_rules.specs.ReadEvent.{read_part, view_part}
use Rattle.ag_rules.specs.RedoEvent.{redo_part}
use Rattle.ag_rules.specs.ReportEvent.{report_part}
use Rattle.ag_rules.specs.ResumeEvent.{plan_of_resume}
use Rattle.ag_rules.specs.ResumeMessage.{resume_message_part}
use Rattle.ag_rules.specs.SendEvent.{send_part}
use Rattle.ag_rules.specs.SetEvent.{set_part}
use Rattle.ag_rules.specs.SnapEvent.{snap_part, close_part}
use Rattle.ag_rules.specs.SpoilEvent.{spoil_part, unread_part}
use Rattle.ag_rules.specs.StartEvent.{start_part}
use Rattle.ag_rules.specs.SyncEvent.{plan_of_sync, plan_of_timeout}
use Rattle.ag_rules.specs.TermLog.{term_log}
use Rattle.ag_rules.specs.TrimEvent.{trim_part}

abbrev one : List Moment
one = run One.config One.events

reads_of_one : ReadsRight one
unfolding mark_after value pick committed rows fork_of_starts fork access ack_part ack_message_part apply_part ask_part begin_part block_part end_part crash_part cut_part mend_part plan_of_deliver plan_of_lose plan_of_planned plan_of_force plan_of_auto finish_part by_eights flush_part get_part opening_replica opening harden_part hello_part join_part suspects_part page_part sectors_part status_part done page_ask_part page_give_part promotion_records blocks_of put_part raise_part read_part view_part redo_part report_part plan_of_resume resume_message_part send_part set_part snap_part close_part spoil_part unread_part start_part plan_of_sync plan_of_timeout term_log trim_part
reads_of_one = (record { within = omega arith; row = refl }, tt)

abbrev seventeen : List Moment
seventeen = run Seventeen.config Seventeen.events

sessions_of_seventeen : lsns_seen seventeen ≡ record { session = 0; term = 1; lsn = 3 } ∷ record { session = 0; term = 2; lsn = 2 } ∷ []
unfolding mark_after value pick committed rows fork_of_starts fork access ack_part ack_message_part apply_part ask_part begin_part block_part end_part crash_part cut_part mend_part plan_of_deliver plan_of_lose plan_of_planned plan_of_force plan_of_auto finish_part by_eights flush_part get_part opening_replica opening harden_part hello_part join_part suspects_part page_part sectors_part status_part done page_ask_part page_give_part promotion_records blocks_of put_part raise_part read_part view_part redo_part report_part plan_of_resume resume_message_part send_part set_part snap_part close_part spoil_part unread_part start_part plan_of_sync plan_of_timeout term_log trim_part
sessions_of_seventeen = refl

law_of_seventeen : SessionLaw seventeen
unfolding mark_after value pick committed rows fork_of_starts fork access ack_part ack_message_part apply_part ask_part begin_part block_part end_part crash_part cut_part mend_part plan_of_deliver plan_of_lose plan_of_planned plan_of_force plan_of_auto finish_part by_eights flush_part get_part opening_replica opening harden_part hello_part join_part suspects_part page_part sectors_part status_part done page_ask_part page_give_part promotion_records blocks_of put_part raise_part read_part view_part redo_part report_part plan_of_resume resume_message_part send_part set_part snap_part close_part spoil_part unread_part start_part plan_of_sync plan_of_timeout term_log trim_part
law_of_seventeen = (((λ _. (omega arith, λ e. absurd (omega (arith, e)))), tt), (tt, tt))

reads_of_seventeen : ReadsRight seventeen
unfolding mark_after value pick committed rows fork_of_starts fork access ack_part ack_message_part apply_part ask_part begin_part block_part end_part crash_part cut_part mend_part plan_of_deliver plan_of_lose plan_of_planned plan_of_force plan_of_auto finish_part by_eights flush_part get_part opening_replica opening harden_part hello_part join_part suspects_part page_part sectors_part status_part done page_ask_part page_give_part promotion_records blocks_of put_part raise_part read_part view_part redo_part report_part plan_of_resume resume_message_part send_part set_part snap_part close_part spoil_part unread_part start_part plan_of_sync plan_of_timeout term_log trim_part
reads_of_seventeen = (record { within = omega arith; row = refl }, (record { within = omega arith; row = refl }, tt))

abbrev twenty_two : List Moment
twenty_two = run TwentyTwo.config TwentyTwo.events

starts_of_twenty_two : starts_at 2 (term_log twenty_two 2) ≡ record { term = 2; lsn = 4 } ∷ []
unfolding mark_after value pick committed rows fork_of_starts fork access ack_part ack_message_part apply_part ask_part begin_part block_part end_part crash_part cut_part mend_part plan_of_deliver plan_of_lose plan_of_planned plan_of_force plan_of_auto finish_part by_eights flush_part get_part opening_replica opening harden_part hello_part join_part suspects_part page_part sectors_part status_part done page_ask_part page_give_part promotion_records blocks_of put_part raise_part read_part view_part redo_part report_part plan_of_resume resume_message_part send_part set_part snap_part close_part spoil_part unread_part start_part plan_of_sync plan_of_timeout term_log trim_part
starts_of_twenty_two = refl

stands_of_twenty_two : slice_get (term_log twenty_two 2) 2 ≡ Some (D.Commit 1 (21 ∷ []))
unfolding mark_after value pick committed rows fork_of_starts fork access ack_part ack_message_part apply_part ask_part begin_part block_part end_part crash_part cut_part mend_part plan_of_deliver plan_of_lose plan_of_planned plan_of_force plan_of_auto finish_part by_eights flush_part get_part opening_replica opening harden_part hello_part join_part suspects_part page_part sectors_part status_part done page_ask_part page_give_part promotion_records blocks_of put_part raise_part read_part view_part redo_part report_part plan_of_resume resume_message_part send_part set_part snap_part close_part spoil_part unread_part start_part plan_of_sync plan_of_timeout term_log trim_part
stands_of_twenty_two = refl

kept_commits : map (λ c. c.commit) (to_keep twenty_two 2) ≡ Some (D.Commit 1 (21 ∷ [])) ∷ []
unfolding mark_after value pick committed rows fork_of_starts fork access ack_part ack_message_part apply_part ask_part begin_part block_part end_part crash_part cut_part mend_part plan_of_deliver plan_of_lose plan_of_planned plan_of_force plan_of_auto finish_part by_eights flush_part get_part opening_replica opening harden_part hello_part join_part suspects_part page_part sectors_part status_part done page_ask_part page_give_part promotion_records blocks_of put_part raise_part read_part view_part redo_part report_part plan_of_resume resume_message_part send_part set_part snap_part close_part spoil_part unread_part start_part plan_of_sync plan_of_timeout term_log trim_part
kept_commits = refl

keeps_one : length (to_keep twenty_two 2) ≡ 1
unfolding mark_after value pick committed rows fork_of_starts fork access ack_part ack_message_part apply_part ask_part begin_part block_part end_part crash_part cut_part mend_part plan_of_deliver plan_of_lose plan_of_planned plan_of_force plan_of_auto finish_part by_eights flush_part get_part opening_replica opening harden_part hello_part join_part suspects_part page_part sectors_part status_part done page_ask_part page_give_part promotion_records blocks_of put_part raise_part read_part view_part redo_part report_part plan_of_resume resume_message_part send_part set_part snap_part close_part spoil_part unread_part start_part plan_of_sync plan_of_timeout term_log trim_part
keeps_one = refl

keeps_none : length (to_keep twenty_two 3) ≡ 0
unfolding mark_after value pick committed rows fork_of_starts fork access ack_part ack_message_part apply_part ask_part begin_part block_part end_part crash_part cut_part mend_part plan_of_deliver plan_of_lose plan_of_planned plan_of_force plan_of_auto finish_part by_eights flush_part get_part opening_replica opening harden_part hello_part join_part suspects_part page_part sectors_part status_part done page_ask_part page_give_part promotion_records blocks_of put_part raise_part read_part view_part redo_part report_part plan_of_resume resume_message_part send_part set_part snap_part close_part spoil_part unread_part start_part plan_of_sync plan_of_timeout term_log trim_part
keeps_none = refl

confirmed_below : flat_map (λ c. last_confirmed twenty_two 2 c ∷ []) (to_keep twenty_two 2) ≡ 1 ∷ []
unfolding mark_after value pick committed rows fork_of_starts fork access ack_part ack_message_part apply_part ask_part begin_part block_part end_part crash_part cut_part mend_part plan_of_deliver plan_of_lose plan_of_planned plan_of_force plan_of_auto finish_part by_eights flush_part get_part opening_replica opening harden_part hello_part join_part suspects_part page_part sectors_part status_part done page_ask_part page_give_part promotion_records blocks_of put_part raise_part read_part view_part redo_part report_part plan_of_resume resume_message_part send_part set_part snap_part close_part spoil_part unread_part start_part plan_of_sync plan_of_timeout term_log trim_part
confirmed_below = refl

abbrev fifteen : List Moment
fifteen = run Fifteen.config Fifteen.events

returns_of_fifteen : flat_map (λ b. b.lsn ∷ b.replica.term ∷ length b.replica.kept.master.foreign ∷ []) (returns fifteen) ≡ 6 ∷ 2 ∷ 0 ∷ []
unfolding mark_after value pick committed rows fork_of_starts fork access ack_part ack_message_part apply_part ask_part begin_part block_part end_part crash_part cut_part mend_part plan_of_deliver plan_of_lose plan_of_planned plan_of_force plan_of_auto finish_part by_eights flush_part get_part opening_replica opening harden_part hello_part join_part suspects_part page_part sectors_part status_part done page_ask_part page_give_part promotion_records blocks_of put_part raise_part read_part view_part redo_part report_part plan_of_resume resume_message_part send_part set_part snap_part close_part spoil_part unread_part start_part plan_of_sync plan_of_timeout term_log trim_part
returns_of_fifteen = refl

sizes_of_fifteen : flat_map (λ b. map record_size (records b.replica)) (returns fifteen) ≡ 9 ∷ 16 ∷ 13 ∷ 9 ∷ 16 ∷ 13 ∷ []
unfolding mark_after value pick committed rows fork_of_starts fork access ack_part ack_message_part apply_part ask_part begin_part block_part end_part crash_part cut_part mend_part plan_of_deliver plan_of_lose plan_of_planned plan_of_force plan_of_auto finish_part by_eights flush_part get_part opening_replica opening harden_part hello_part join_part suspects_part page_part sectors_part status_part done page_ask_part page_give_part promotion_records blocks_of put_part raise_part read_part view_part redo_part report_part plan_of_resume resume_message_part send_part set_part snap_part close_part spoil_part unread_part start_part plan_of_sync plan_of_timeout term_log trim_part
sizes_of_fifteen = refl

sizes_of_its_primary : map record_size (take 6 (term_log fifteen 2)) ≡ 9 ∷ 16 ∷ 13 ∷ 9 ∷ 16 ∷ 13 ∷ []
unfolding mark_after value pick committed rows fork_of_starts fork access ack_part ack_message_part apply_part ask_part begin_part block_part end_part crash_part cut_part mend_part plan_of_deliver plan_of_lose plan_of_planned plan_of_force plan_of_auto finish_part by_eights flush_part get_part opening_replica opening harden_part hello_part join_part suspects_part page_part sectors_part status_part done page_ask_part page_give_part promotion_records blocks_of put_part raise_part read_part view_part redo_part report_part plan_of_resume resume_message_part send_part set_part snap_part close_part spoil_part unread_part start_part plan_of_sync plan_of_timeout term_log trim_part
sizes_of_its_primary = refl

abbrev sixteen : List Moment
sixteen = run Sixteen.config Sixteen.events

-- three terms, three logs
logs_of_sixteen : (length (term_log sixteen 1) ≡ 9) × (length (term_log sixteen 2) ≡ 6) × (length (term_log sixteen 3) ≡ 6)
unfolding mark_after value pick committed rows fork_of_starts fork access ack_part ack_message_part apply_part ask_part begin_part block_part end_part crash_part cut_part mend_part plan_of_deliver plan_of_lose plan_of_planned plan_of_force plan_of_auto finish_part by_eights flush_part get_part opening_replica opening harden_part hello_part join_part suspects_part page_part sectors_part status_part done page_ask_part page_give_part promotion_records blocks_of put_part raise_part read_part view_part redo_part report_part plan_of_resume resume_message_part send_part set_part snap_part close_part spoil_part unread_part start_part plan_of_sync plan_of_timeout term_log trim_part
logs_of_sixteen = (refl, refl, refl)
