-- Each event keeps what holds, and adds what it confirms.
use Rattle.std.proofs.Common.{◌≡◌, ℕ, List, [], ◌++◌, true, false, refl, sym, ap, ◌∙◌, subst, arith, append-nil}
use Rattle.ag_model.specs.declared.config.Register.{Register}
use Rattle.ag_model.specs.declared.event.Suffix.{Suffix}
use Rattle.ag_model.specs.declared.event.Who.{Who}
use Rattle.ag_model.specs.declared.value.Change.TheVariants.{Put as PutChange, Del as DelChange}
use Rattle.ag_model.specs.declared.event.Event.{Event}
use Rattle.ag_model.specs.declared.event.Event.TheVariants.{Begin, Get, Put, Del, Commit, Rollback, Set, Trim, Harden, Ack, Send, Deliver, Repeat, Lose, Apply, Raise, Redo, Read, Snap, View, Close, Report, Flush, Crash, Start, Spoil, Unread, Ask, Suspects, Page, Sectors, Status, Cut, Mend, Join, Resume, Sync, Timeout, Planned, Auto, Force, Finish}
use Rattle.ag_rules.specs.Group.{Group, replica, is_full}
use Rattle.ag_rules.specs.Plan.{Part, Plan, here, at_node}
use Rattle.ag_rules.specs.Cut.{cut}
use Rattle.ag_rules.specs.Next.{named, at_session, token, plan_of, suffix_of, done}
use Rattle.ag_rules.specs.Script.{IsEvent, IsWho}
use Rattle.ag_rules.specs.AckEvent.{ack_part}
use Rattle.ag_rules.specs.JoinEvent.{join_part}
use Rattle.ag_rules.specs.KeptLaw.{Confirmed}
use Rattle.ag_laws.specs.Logs.{Logs, Setting}
use Rattle.ag_laws.specs.Good.{Good}
use Rattle.ag_laws.specs.Keeps.{Keeps}
use Rattle.ag_laws.proofs.Events.{named_there}
use Rattle.ag_law_kept.specs.Past.{Past}
use Rattle.ag_law_kept.specs.Holds.{Holds}
use Rattle.ag_law_kept.specs.Local.{all_confirmed_by, all_confirmed_at}
use Rattle.ag_law_kept.proofs.World.{IsWorld, AreGrown, world}
use Rattle.ag_law_kept.proofs.Goes.{Fit, fit_of, Outcome}
use Rattle.ag_law_kept.proofs.Calm.{PartCalm, begin_calm, get_calm, put_calm, end_calm, set_calm, trim_calm, ack_event_calm, raise_calm, apply_calm, redo_calm, read_calm, view_calm, snap_calm, close_calm, suspects_calm, page_calm, sectors_calm, status_calm, spoil_calm, unread_calm, ask_event_calm, cut_event_calm}
use Rattle.ag_law_kept.proofs.Grows.{crash_calm, harden_calm, flush_calm, finish_calm, report_calm, send_calm}
use Rattle.ag_law_kept.proofs.Leads.{cut_calm, mend_fits, start_fits}
use Rattle.ag_law_kept.proofs.Greets.{cut_quiet}
use Rattle.ag_law_kept.proofs.Joins.{join_holds}
use Rattle.ag_law_kept.proofs.Stores.{resume_event_holds, sync_holds, timeout_holds}
use Rattle.ag_law_kept.proofs.Nexts.{Remembers, Next, next_same, cut_register}
use Rattle.ag_law_kept.proofs.Events.{Comes2, calm, fits, two, planned_next, force_next, auto_next, session_next}
use Rattle.ag_law_kept.proofs.Delivers.{deliver_next, lose_next}
use Rattle.ag_law_kept.proofs.Confirms.{ack_holds}
use Rattle.ag_law_kept.proofs.Registers.{same_resume, same_sync, same_timeout, ack_quiet}

module _ (past : Past) (cs : List Confirmed) (s : Setting) (logs : Logs) (g : Group) (good : Good s logs g) (r : Remembers past s g) (h : Holds past cs logs g) where
  -- an event at one replica
  one : (v : Who) (suffix : Suffix) (part : Part) → IsWho s.config v → (Fit g.config.pages (replica g (named g v)) → PartCalm g.config.pages (replica g (named g v)) part) → Comes2 past cs s logs g good r h suffix (at_node g (named g v) part)
  one v suffix part is f = calm past cs s logs g good r h (named g v) suffix part (named_there s logs g v good is) (f (fit_of past (named g v) g.config.pages (replica g (named g v)) (h.states (named g v))))

  -- an event of a session
  seen : (v : Who) (x : ℕ) (suffix : Suffix) (part : Part) → IsWho s.config v → (Fit g.config.pages (replica g (named g v)) → PartCalm g.config.pages (replica g (named g v)) part) → Comes2 past cs s logs g good r h suffix (at_session g (named g v) x part)
  seen v x suffix part is f = session_next past cs s logs g good r h (named g v) x suffix part (named_there s logs g v good is) (f (fit_of past (named g v) g.config.pages (replica g (named g v)) (h.states (named g v))))

  plan_next : (e : Event) → IsEvent s.config e → Comes2 past cs s logs g good r h (suffix_of e) (plan_of g e)
  plan_next (Begin v suffix) is = one v suffix _ is (begin_calm (here g (named g v)) _)
  plan_next (Get v txn key suffix) is = one v suffix _ is (get_calm (here g (named g v)) _ txn key)
  plan_next (Put v txn key value suffix) is = one v suffix _ is.0 (put_calm (here g (named g v)) _ txn key (PutChange value))
  plan_next (Del v txn key suffix) is = one v suffix _ is (put_calm (here g (named g v)) _ txn key DelChange)
  plan_next (Commit v txn suffix) is = one v suffix _ is (end_calm true (here g (named g v)) _ txn)
  plan_next (Rollback v txn suffix) is = one v suffix _ is (end_calm false (here g (named g v)) _ txn)
  plan_next (Set v pairs suffix) is = one v suffix _ is.0 (set_calm (here g (named g v)) _ pairs)
  plan_next (Trim v p horizon suffix) is = one v suffix _ is.0 (trim_calm (here g (named g v)) _ p horizon)
  plan_next (Harden v suffix) is = one v suffix _ is (λ f. harden_calm (here g (named g v)) _ f (λ e. (h.leaders (named g v) e).free))
  plan_next (Ack v lsn suffix) is = one v suffix _ is (ack_event_calm (here g (named g v)) _ lsn)
  plan_next (Send v u suffix) is = two past cs s logs g good r h _ _ suffix _ (named_there s logs g v good is.0) (λ q. one v suffix _ is.0 (send_calm (here g (named g v)) _ (named g u) _))
  plan_next (Deliver v u i suffix) is = two past cs s logs g good r h _ _ suffix _ (named_there s logs g v good is.0.0) (λ q. deliver_next past cs s logs g good r h (named g v) (named g u) i (named_there s logs g u good is.0.1) false suffix q)
  plan_next (Repeat v u i suffix) is = two past cs s logs g good r h _ _ suffix _ (named_there s logs g v good is.0.0) (λ q. deliver_next past cs s logs g good r h (named g v) (named g u) i (named_there s logs g u good is.0.1) true suffix q)
  plan_next (Lose v u i suffix) is = two past cs s logs g good r h _ _ suffix _ (named_there s logs g v good is.0.0) (λ q. lose_next past cs s logs g good r h (named g v) (named g u) i (named_there s logs g u good is.0.1) suffix)
  plan_next (Apply v x suffix) is = one v suffix _ is.0 (apply_calm (here g (named g v)) _ x)
  plan_next (Raise v x suffix) is = one v suffix _ is.0 (raise_calm (here g (named g v)) _ x)
  plan_next (Redo v suffix) is = one v suffix _ is (redo_calm (here g (named g v)) _)
  plan_next (Read v x key suffix) is = seen v x suffix _ is.0 (read_calm (here g (named g v)) _ (token g x) key)
  plan_next (Snap v x suffix) is = seen v x suffix _ is.0 (snap_calm (here g (named g v)) _ (token g x) x)
  plan_next (View v x key suffix) is = seen v x suffix _ is.0 (view_calm (here g (named g v)) _ (token g x) x key)
  plan_next (Close v x suffix) is = one v suffix _ is.0 (close_calm (here g (named g v)) _ x)
  plan_next (Report v suffix) is = one v suffix _ is (report_calm (here g (named g v)) _ _)
  plan_next (Flush v suffix) is = one v suffix _ is (flush_calm (here g (named g v)) _)
  plan_next (Crash v suffix) is = one v suffix _ is (crash_calm (here g (named g v)) _)
  plan_next (Start v suffix) is =
      let n : ℕ = named g v in
      let w : IsWorld past logs g = world past s logs g r.meets good in
      fits past cs s logs g good r h n suffix _ (named_there s logs g v good is)
      (start_fits past logs n (here g n) (replica g n) (fit_of past n g.config.pages (replica g n) (h.states n)) (omega (arith, (w.each n).term)) (w.each n).down (λ e. ((w.each n).acts e).up) (h.leaders n))
  plan_next (Spoil v p x suffix) is = one v suffix _ is.0 (spoil_calm g.config.pages _ p x)
  plan_next (Unread v p suffix) is = one v suffix _ is.0 (unread_calm g.config.pages _ p)
  plan_next (Ask v p u suffix) is = two past cs s logs g good r h _ _ suffix _ (named_there s logs g v good is.0.0) (λ q. one v suffix _ is.0.0 (ask_event_calm (here g (named g v)) _ p (named g u) _))
  plan_next (Suspects v suffix) is = one v suffix _ is (suspects_calm (here g (named g v)) _)
  plan_next (Page v p suffix) is = one v suffix _ is.0 (page_calm (here g (named g v)) _ p)
  plan_next (Sectors v p suffix) is = one v suffix _ is.0 (sectors_calm g.config.pages _ p)
  plan_next (Status v suffix) is = one v suffix _ is (status_calm (here g (named g v)) _)
  plan_next (Cut v suffix) is = one v suffix _ is (cut_event_calm (here g (named g v)) _)
  plan_next (Mend v suffix) is =
      let n : ℕ = named g v in
      fits past cs s logs g good r h n suffix _ (named_there s logs g v good is) (mend_fits past logs n (here g n) (replica g n) (fit_of past n g.config.pages (replica g n) (h.states n)) refl (h.leaders n))
  plan_next (Join v suffix) is = λ k.
      let n : ℕ = named g v in
      next_same past cs s logs g _ good r k (ap (λ (x : Register). x.term) (cut_register g n (join_part (here g n) (replica g n) (is_full g n g.register.primary)) suffix)) (join_holds past cs s logs k.grown g n (world past s logs g r.meets good) h (named_there s logs g v good is) good.messages (is_full g n g.register.primary) suffix)
  plan_next (Resume v suffix) is = λ k.
      next_same past cs s logs g _ good r k (same_resume g (named g v) suffix) (resume_event_holds past cs logs k.grown g (named g v) suffix (world past s logs g r.meets good) h (named_there s logs g v good is))
  plan_next (Sync v u suffix) is = two past cs s logs g good r h _ _ suffix _ (named_there s logs g v good is.0) (λ q k.
      next_same past cs s logs g _ good r k (same_sync g (named g v) (named g u) suffix) (sync_holds past cs logs k.grown g (named g v) (named g u) (world past s logs g r.meets good) h (named_there s logs g v good is.0) suffix (named_there s logs g u good is.1) q))
  plan_next (Timeout v u suffix) is = two past cs s logs g good r h _ _ suffix _ (named_there s logs g v good is.0) (λ q k.
      next_same past cs s logs g _ good r k (same_timeout g (named g v) (named g u) suffix) (timeout_holds past cs logs k.grown g (named g v) (named g u) (world past s logs g r.meets good) h (named_there s logs g v good is.0) suffix))
  plan_next (Planned v suffix) is = planned_next past cs s logs g good r h (named g v) suffix (named_there s logs g v good is)
  plan_next (Auto suffix) is = auto_next past cs s logs g good r h suffix
  plan_next (Force v suffix) is = force_next past cs s logs g good r h (named g v) suffix (named_there s logs g v good is)
  plan_next (Finish v suffix) is = one v suffix _ is (finish_calm (here g (named g v)) _ _)

  -- an `ack`, with what it confirms
  ack_next : (v : Who) (lsn : ℕ) (suffix : Suffix) → IsWho s.config v → (let p = cut suffix (at_node g (named g v) (ack_part (here g (named g v)) (replica g (named g v)) lsn)) in
      (k : Keeps s logs g p.after) → Next past (cs ++ all_confirmed_by (replica g (named g v)) p.answer) k.setting k.grown g p.after)
  ack_next v lsn suffix is =
      let n : ℕ = named g v in
      let part : Part = ack_part (here g n) (replica g n) lsn in
      let w : IsWorld past logs g = world past s logs g r.meets good in
      let cs2 : List Confirmed = cs ++ all_confirmed_by (replica g n) part.answer in
      let h2 : Holds past cs2 logs g = ack_holds past cs logs g n lsn w h in
      let whole : cut suffix (at_node g n part) ≡ at_node g n part = cut_quiet suffix (at_node g n part) (no_writes n) in
      subst (λ (p : Plan). (k : Keeps s logs g p.after) → Next past (cs ++ all_confirmed_by (replica g n) p.answer) k.setting k.grown g p.after) (sym whole)
      (λ k. next_same past cs2 s logs g (at_node g n part).after good r k (ap (λ (p : Plan). p.after.register.term) (sym whole) ∙ ap (λ (x : Register). x.term) (cut_register g n part suffix))
      (subst (λ (p : Plan). IsWorld past k.grown p.after → AreGrown past logs k.grown p.after → Outcome past cs2 k.grown p.after) whole (cut_calm past cs2 logs k.grown g n part suffix w h2 (named_there s logs g v good is) (ack_event_calm (here g n) (replica g n) lsn (fit_of past n g.config.pages (replica g n) (h.states n))))))
    where
      no_writes : (n : ℕ) → (at_node g n (ack_part (here g n) (replica g n) lsn)).writes ≡ []
      no_writes n = ack_quiet (here g n) (replica g n) lsn

  pub next_event : (e : Event) → IsEvent s.config e → (k : Keeps s logs g (done g e).after) → Next past (cs ++ all_confirmed_at g e (done g e).answer) k.setting k.grown g (done g e).after
  unfolding done
  next_event (Ack v lsn suffix) is k = ack_next v lsn suffix is k
  next_event e is k = subst (λ (c : List Confirmed). Next past c k.setting k.grown g (done g e).after) (sym (append-nil cs)) (plan_next e is k)
