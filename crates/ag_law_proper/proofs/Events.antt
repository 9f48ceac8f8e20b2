-- What each event makes of the logs of the group.
use Rattle.std.proofs.Common.{◌≡◌, ◌≢◌, ℕ, ◌+◌, ◌-◌, ◌<◌, List, [], ◌∷◌, ◌++◌, length, take, drop, inl, true, false, Bool, refl, sym, ap, ◌∙◌, subst, arith, length-set}
use Rattle.std.specs.Prelude.{Option, Some, None, slice_get, ◌==◌, ◌&&◌, not}
use Rattle.std.proofs.lemmas.Bool.{eqb-false, false≢true, ltb-false}
use Rattle.std.proofs.lemmas.List.{get_or-set_other}
use Rattle.ag_model.specs.declared.event.Suffix.{Suffix}
use Rattle.ag_model.specs.declared.event.Who.{Who}
use Rattle.ag_model.specs.declared.message.Message.{Message}
use Rattle.ag_model.specs.declared.config.Config.{Config}
use Rattle.ag_model.specs.declared.config.Register.{Register}
use Rattle.ag_model.specs.declared.value.Change.TheVariants.{Put as PutChange, Del as DelChange}
use Rattle.ag_model.specs.declared.event.Event.{Event}
use Rattle.ag_model.specs.declared.event.Event.TheVariants.{Begin, Get, Put, Del, Commit, Rollback, Set, Trim, Harden, Ack, Send, Deliver, Repeat, Lose, Apply, Raise, Redo, Read, Snap, View, Close, Report, Flush, Crash, Start, Spoil, Unread, Ask, Suspects, Page, Sectors, Status, Cut, Mend, Join, Resume, Sync, Timeout, Planned, Auto, Force, Finish}
use Rattle.ag_model.specs.declared.answer.Answer.{Answer}
use Rattle.ag_model.specs.declared.answer.Answer.TheVariants.{Resumed, Synchronised, TimedOut, Lost}
use Rattle.ag_model.specs.declared.answer.Refusal.TheVariants.{Nothing}
use Rattle.ag_rules.specs.Replica.{Replica, records, stepped_down}
use Rattle.ag_rules.specs.Group.{Group, replica, link, is_full, nobody, with_member, without_member}
use Rattle.ag_rules.specs.Plan.{Here, Part, Plan, Check, here, unless, refused, at_once, at_node, at_node_after, is_refusal}
use Rattle.ag_rules.specs.Cut.{cut}
use Rattle.ag_rules.specs.Checks.{is_down}
use Rattle.ag_rules.specs.CutEvent.{told}
use Rattle.ag_rules.specs.ResumeEvent.{plan_of_resume, checks_of_resume, with_resumed}
use Rattle.ag_rules.specs.SyncEvent.{plan_of_sync, plan_of_timeout, checks_of_sync, checks_of_timeout, with_synced, without_synced, disconnected}
use Rattle.ag_rules.specs.DeliverEvent.{plan_of_deliver, plan_of_message, delivered, taken, leaves, plan_of_lose, plan_of_loss}
use Rattle.ag_rules.specs.Failover.{failover, failover_checks, failover_records, group_moved, old_primary, takes_over, target, plan_of_planned, plan_of_force, plan_of_auto, plan_to_first, primary_serves, targets, moved, moved_by_force, checks_of_planned, checks_of_force}
use Rattle.ag_rules.specs.Promotion.{promotion_records, blocks_of}
use Rattle.ag_rules.specs.Next.{named, apart, plan_of, suffix_of, done, token}
use Rattle.ag_rules.specs.Script.{IsWho, IsEvent}
use Rattle.ag_lists.proofs.Tests.{if_has}
use Rattle.ag_lists.proofs.Places.{at_set}
use Rattle.ag_lists.proofs.Each.{all_append, all_take, all_drop, all_get}
use Rattle.ag_laws.specs.Logs.{Setting, Logs}
use Rattle.ag_laws.specs.At.{At}
use Rattle.ag_laws.specs.Fits.{MessageFits}
use Rattle.ag_laws.specs.Good.{Good}
use Rattle.ag_laws.proofs.Plans.{unless_has, Passes}
use Rattle.ag_laws.proofs.Events.{named_there}
use Rattle.ag_laws.proofs.Store.{FirstIs, targets_first}
use Rattle.ag_law_proper.specs.Growth.{Told, LogFits, LeadGoes, Follows}
use Rattle.ag_law_proper.proofs.Parts.{PartGoes, lead_same, same_goes, at_once_goes, checked_goes}
use Rattle.ag_law_proper.proofs.LeadingGoes.{begin_goes, get_goes, put_goes, end_goes, set_goes, trim_goes, ack_event_goes, raise_goes, apply_goes}
use Rattle.ag_law_proper.proofs.RestGoes.{read_goes, view_goes, snap_goes, close_goes, redo_goes, flush_goes, finish_goes, report_goes, suspects_goes, page_goes, sectors_goes, status_goes, spoil_goes, unread_goes, ask_event_goes, cut_event_goes, mend_goes, crash_goes}
use Rattle.ag_law_proper.proofs.MessageGoes.{send_goes, join_goes, arrives_goes}
use Rattle.ag_law_proper.proofs.TakesGoes.{harden_goes, start_goes, takes_over_goes, MayLead}
use Rattle.ag_law_proper.proofs.Lifts.{AllTold, GroupGoes, Based, based_same, link_set, cut_goes, session_goes}

-- an answer that changes nothing
unchanged : (logs : Logs) (known : Told) (g : Group) (n : ℕ) (a : Answer) (suffix : Suffix) → AllTold known g → n < length g.replicas → GroupGoes logs known g (cut suffix (at_node g n (at_once a (replica g n)))).after
unchanged logs known g n a suffix links h = cut_goes logs known g g n _ suffix (based_same known g n links h) (same_goes logs known g.config.pages (replica g n) a)

-- an event at one replica
one : (s : Setting) (logs : Logs) (known : Told) (g : Group) (w : Who) (suffix : Suffix) (part : Part) → Good s logs g → AllTold known g → IsWho s.config w → (At s logs (named g w) (replica g (named g w)) → PartGoes logs known g.config.pages (replica g (named g w)) part) → GroupGoes logs known g (cut suffix (at_node g (named g w) part)).after
one s logs known g w suffix part good links is f = cut_goes logs known g g (named g w) part suffix (based_same known g (named g w) links (named_there s logs g w good is)) (f (good.each (named g w)))

-- an event of two replicas
two : (logs : Logs) (known : Told) (g : Group) (n m : ℕ) (suffix : Suffix) (plan : Plan) → AllTold known g → n < length g.replicas → GroupGoes logs known g (cut suffix plan).after → GroupGoes logs known g (cut suffix (apart g n m plan)).after
two logs known g n m suffix plan links h f =
    if_has (λ (p : Plan). GroupGoes logs known g (cut suffix p).after) (n == m) (at_node g n (refused Nothing (replica g n))) plan
    (λ _. unchanged logs known g n _ suffix links h)
    (λ _. f)

-- the group whose message was taken
based_taken : (known : Told) (g : Group) (n m i : ℕ) → AllTold known g → m < length g.replicas → Based known g (taken g n m i) m
based_taken known g n m i links h = record {
  here = refl;
  kept = λ j _. refl;
  leads = λ j _. lead_same g.config.pages (replica g j) (replica g j) refl refl;
  links = link_set (λ _. known) g n m _ links (all_append known (take (i - 1) (link g n m)) (drop i (link g n m)) (all_take known (i - 1) _ (links n m)) (all_drop known i _ (links n m)));
  there = h;
  config = refl;
  count = refl;
}

delivered_goes : (logs : Logs) (known : Told) (g : Group) (n m i : ℕ) (repeats : Bool) (part : Part) (suffix : Suffix) → AllTold known g → m < length g.replicas → PartGoes logs known g.config.pages (replica g m) part → GroupGoes logs known g (cut suffix (delivered g n m i repeats part)).after
delivered_goes logs known g n m i repeats part suffix links h p =
    if_has (λ (x : Group). GroupGoes logs known g (cut suffix (at_node x m part)).after) repeats g _
    (λ _. cut_goes logs known g g m part suffix (based_same known g m links h) p)
    (λ _. if_has (λ (x : Group). GroupGoes logs known g (cut suffix (at_node x m part)).after) (leaves part.answer) g (taken g n m i)
    (λ _. cut_goes logs known g g m part suffix (based_same known g m links h) p)
    (λ _. cut_goes logs known g (taken g n m i) m part suffix (based_taken known g n m i links h) p))

message_goes : (s : Setting) (logs : Logs) (known : Told) (g : Group) (n m i : ℕ) (repeats : Bool) (o : Option Message) (suffix : Suffix) → Good s logs g → AllTold known g → m < length g.replicas → slice_get (link g n m) (i - 1) ≡ o → GroupGoes logs known g (cut suffix (plan_of_message g n m i repeats o)).after
message_goes s logs known g n m i repeats None suffix good links h e = unchanged logs known g m _ suffix links h
message_goes s logs known g n m i repeats (Some message) suffix good links h e =
    let r : Replica = replica g m in
    let fits : MessageFits s logs (replica g n) m r message = all_get (MessageFits s logs (replica g n) m r) (link g n m) (i - 1) message (good.messages n m) e in
    delivered_goes logs known g n m i repeats _ suffix links h
    (checked_goes logs known g.config.pages r (is_down (here g m) r ∷ []) _
    (λ _. arrives_goes s logs known g.config.pages n m (here g m) (replica g n) r (is_full g m n) message.term message.body (good.each m) (all_get known (link g n m) (i - 1) message (links n m) e) fits))

deliver_goes : (s : Setting) (logs : Logs) (known : Told) (g : Group) (n m i : ℕ) (repeats : Bool) (suffix : Suffix) → Good s logs g → AllTold known g → m < length g.replicas → GroupGoes logs known g (cut suffix (plan_of_deliver g n m i repeats)).after
unfolding plan_of_deliver
deliver_goes s logs known g n m i repeats suffix good links h = message_goes s logs known g n m i repeats (slice_get (link g n m) (i - 1)) suffix good links h refl

loss_goes : (logs : Logs) (known : Told) (g : Group) (n m i : ℕ) (o : Option Message) (suffix : Suffix) → AllTold known g → m < length g.replicas → GroupGoes logs known g (cut suffix (plan_of_loss g n m i o)).after
loss_goes logs known g n m i None suffix links h = unchanged logs known g m _ suffix links h
loss_goes logs known g n m i (Some message) suffix links h = cut_goes logs known g (taken g n m i) m (at_once Lost (replica g m)) suffix (based_taken known g n m i links h) (same_goes logs known g.config.pages (replica g m) Lost)

lose_goes : (logs : Logs) (known : Told) (g : Group) (n m i : ℕ) (suffix : Suffix) → AllTold known g → m < length g.replicas → GroupGoes logs known g (cut suffix (plan_of_lose g n m i)).after
unfolding plan_of_lose
lose_goes logs known g n m i suffix links h = loss_goes logs known g n m i (slice_get (link g n m) (i - 1)) suffix links h

-- an event that changes a set of the store
store_goes : (logs : Logs) (known : Told) (g : Group) (n : ℕ) (store : Register) (checks : List Check) (a : Answer) (r : Replica) (suffix : Suffix) → AllTold known g → n < length g.replicas → is_refusal a ≡ false → PartGoes logs known g.config.pages (replica g n) (at_once a r)
    → GroupGoes logs known g (cut suffix (at_node_after g (record g { register = store }) n (unless checks (replica g n) (at_once a r)))).after
store_goes logs known g n store checks a r suffix links h answered goes =
    unless_has (λ part. GroupGoes logs known g (cut suffix (at_node_after g (record g { register = store }) n part)).after) checks (replica g n) (at_once a r)
    (λ why. unchanged logs known g n _ suffix links h)
    (λ _. if_has (λ (x : Group). GroupGoes logs known g (cut suffix (at_node x n (at_once a r))).after) (is_refusal a) g (record g { register = store })
    (λ t. absurd (false≢true (sym answered ∙ t)))
    (λ _. cut_goes logs known g (record g { register = store }) n (at_once a r) suffix (record { here = refl; kept = λ j _. refl; leads = λ j _. lead_same g.config.pages (replica g j) (replica g j) refl refl; links = links; there = h; config = refl; count = refl }) goes))

resume_event_goes : (logs : Logs) (known : Told) (g : Group) (n : ℕ) (suffix : Suffix) → AllTold known g → n < length g.replicas → GroupGoes logs known g (cut suffix (plan_of_resume g n)).after
unfolding plan_of_resume
resume_event_goes logs known g n suffix links h =
    store_goes logs known g n (with_resumed g.register n) (checks_of_resume (here g n) (replica g n)) Resumed (replica g n) suffix links h refl (same_goes logs known g.config.pages (replica g n) _)

sync_goes : (logs : Logs) (known : Told) (g : Group) (n m : ℕ) (suffix : Suffix) → AllTold known g → n < length g.replicas → GroupGoes logs known g (cut suffix (plan_of_sync g n m)).after
unfolding plan_of_sync
sync_goes logs known g n m suffix links h =
    let r : Replica = replica g n in
    let then_ : Replica = told (with_member g.register.synced m) r in
    store_goes logs known g n (with_synced g.register m) (checks_of_sync (here g n) r m (replica g m)) Synchronised then_ suffix links h refl
    (at_once_goes logs known g.config.pages r _ then_ refl (lead_same g.config.pages r then_ refl refl))

timeout_goes : (logs : Logs) (known : Told) (g : Group) (n m : ℕ) (suffix : Suffix) → AllTold known g → n < length g.replicas → GroupGoes logs known g (cut suffix (plan_of_timeout g n m)).after
unfolding plan_of_timeout
timeout_goes logs known g n m suffix links h =
    let r : Replica = replica g n in
    let then_ : Replica = told (without_member g.register.synced m) (disconnected r m) in
    store_goes logs known g n (without_synced g.register m) (checks_of_timeout (here g n) r m) TimedOut then_ suffix links h refl
    (at_once_goes logs known g.config.pages r _ then_ refl (lead_same g.config.pages r then_ refl refl))

-- the group with the store in its next term: the old primary may have stepped down
old_leads : (pages : ℕ) (r : Replica) → LeadGoes pages r (old_primary r)
old_leads pages r = if_has (LeadGoes pages r) (r.up && (r.leads && not r.cut_off)) (stepped_down r) r (λ _. Follows refl) (λ _. lead_same pages r r refl refl)

old_kept : (r : Replica) → (old_primary r).kept ≡ r.kept
old_kept r = if_has (λ (x : Replica). x.kept ≡ r.kept) (r.up && (r.leads && not r.cut_off)) (stepped_down r) r (λ _. refl) (λ _. refl)

based_moved : (known : Told) (g : Group) (n : ℕ) (store : Register) → AllTold known g → n < length g.replicas → n ≢ g.register.primary → Based known g (group_moved g store) n
based_moved known g n store links h apart =
    let old : ℕ = g.register.primary in
    record {
      here = get_or-set_other g.replicas old n (old_primary (replica g old)) nobody apart;
      kept = λ m _. at_set (λ j (x : Replica). x.kept ≡ (replica g j).kept) g.replicas nobody old (old_primary (replica g old)) (λ j. refl) (old_kept (replica g old)) m;
      leads = λ m _. at_set (λ j (x : Replica). LeadGoes g.config.pages (replica g j) x) g.replicas nobody old (old_primary (replica g old)) (λ j. lead_same g.config.pages (replica g j) (replica g j) refl refl) (old_leads g.config.pages (replica g old)) m;
      links = links;
      there = omega (arith, h, length-set g.replicas old (old_primary (replica g old)));
      config = refl;
      count = length-set g.replicas old (old_primary (replica g old));
    }

-- the last check of a failover is the one of the log's room
last_check : (cs : List Check) (h : Here) (r : Replica) → Passes (cs ++ failover_checks h r) → LogFits r.kept.log (blocks_of (failover_records h r))
last_check [] h r p = ltb-false _ _ p.1.0
last_check (c ∷ cs) h r p = last_check cs h r p.1

failover_goes : (s : Setting) (logs : Logs) (known : Told) (g : Group) (n : ℕ) (store : Register) (checks : List Check) (suffix : Suffix) → Good s logs g → AllTold known g → n < length g.replicas → store.term ≡ g.register.term + 1
    → (Passes (checks ++ failover_checks (here g n) (replica g n)) → n ≢ g.register.primary) → GroupGoes logs known g (cut suffix (failover g n store checks)).after
failover_goes s logs known g n store checks suffix good links h term allowed =
    let r : Replica = replica g n in
    unless_has (λ part. GroupGoes logs known g (cut suffix (at_node_after g (group_moved g store) n part)).after) (checks ++ failover_checks (here g n) r) r _
    (λ why. unchanged logs known g n _ suffix links h)
    (λ p.
    let based : Based known g (group_moved g store) n = based_moved known g n store links h (allowed p) in
    let h2 : Here = record (here g n) { store = store } in
    let part : Part = takes_over h2 (failover_records (here g n) r) (target r) in
    let a : At s logs n r = good.each n in
    let may : MayLead logs r store.term = record { low = omega (arith, a.kept.past, term, good.now); whole = inl (good.are.future store.term (omega (arith, term, good.now))) } in
    cut_goes logs known g (group_moved g store) n part suffix based
    (subst (λ (x : Replica). PartGoes logs known g.config.pages x part) (sym based.here)
    (takes_over_goes logs known h2 (failover_records (here g n) r) r may (last_check checks (here g n) r p) (ap (λ t. promotion_records g.config.pages t (records r)) (sym term)))))

planned_goes : (s : Setting) (logs : Logs) (known : Told) (g : Group) (n : ℕ) (suffix : Suffix) → Good s logs g → AllTold known g → n < length g.replicas → GroupGoes logs known g (cut suffix (plan_of_planned g n)).after
unfolding plan_of_planned
planned_goes s logs known g n suffix good links h =
    failover_goes s logs known g n (moved g.register n) (checks_of_planned (here g n) (replica g n) (replica g g.register.primary)) suffix good links h refl
    (λ p e. eqb-false g.register.primary n p.0 (sym e))

force_goes : (s : Setting) (logs : Logs) (known : Told) (g : Group) (n : ℕ) (suffix : Suffix) → Good s logs g → AllTold known g → n < length g.replicas → GroupGoes logs known g (cut suffix (plan_of_force g n)).after
unfolding plan_of_force
force_goes s logs known g n suffix good links h =
    failover_goes s logs known g n (moved_by_force g.register n (length g.config.modes)) (checks_of_force (here g n) (replica g n)) suffix good links h refl
    (λ p e. eqb-false g.register.primary n p.0 (sym e))

first_goes : (s : Setting) (logs : Logs) (known : Told) (g : Group) (ns : List ℕ) (suffix : Suffix) → Good s logs g → AllTold known g → 0 < length g.replicas → length g.config.modes ≡ length g.replicas → FirstIs g ns → GroupGoes logs known g (cut suffix (plan_to_first g ns)).after
first_goes s logs known g [] suffix good links h count p = unchanged logs known g 0 _ suffix links h
first_goes s logs known g (n ∷ ns) suffix good links h count p =
    failover_goes s logs known g n (moved g.register n) [] suffix good links (omega (arith, p.there, count)) refl (λ _. p.apart)

auto_goes : (s : Setting) (logs : Logs) (known : Told) (g : Group) (suffix : Suffix) → Good s logs g → AllTold known g → GroupGoes logs known g (cut suffix (plan_of_auto g)).after
unfolding plan_of_auto
auto_goes s logs known g suffix good links =
    let count : length g.config.modes ≡ length g.replicas = ap (λ (c : Config). length c.modes) good.config ∙ sym good.count in
    let h : 0 < length g.replicas = omega (arith, good.there) in
    if_has (λ (p : Plan). GroupGoes logs known g (cut suffix p).after) (primary_serves g) _ _
    (λ _. unchanged logs known g 0 _ suffix links h)
    (λ f. first_goes s logs known g (targets g) suffix good links h count (targets_first g f))

plan_goes : (s : Setting) (logs : Logs) (known : Told) (g : Group) (e : Event) → Good s logs g → AllTold known g → IsEvent s.config e → GroupGoes logs known g (cut (suffix_of e) (plan_of g e)).after
plan_goes s logs known g (Begin w suffix) good links is = one s logs known g w suffix _ good links is (λ at. begin_goes logs known g.config.pages _ _)
plan_goes s logs known g (Get w txn key suffix) good links is = one s logs known g w suffix _ good links is (λ at. get_goes logs known g.config.pages _ _ txn key)
plan_goes s logs known g (Put w txn key value suffix) good links is = one s logs known g w suffix _ good links is.0 (λ at. put_goes logs known (here g (named g w)) _ txn key (PutChange value))
plan_goes s logs known g (Del w txn key suffix) good links is = one s logs known g w suffix _ good links is (λ at. put_goes logs known (here g (named g w)) _ txn key DelChange)
plan_goes s logs known g (Commit w txn suffix) good links is = one s logs known g w suffix _ good links is (λ at. end_goes logs known true (here g (named g w)) _ txn)
plan_goes s logs known g (Rollback w txn suffix) good links is = one s logs known g w suffix _ good links is (λ at. end_goes logs known false (here g (named g w)) _ txn)
plan_goes s logs known g (Set w pairs suffix) good links is = one s logs known g w suffix _ good links is.0 (λ at. set_goes logs known (here g (named g w)) _ pairs)
plan_goes s logs known g (Trim w p horizon suffix) good links is = one s logs known g w suffix _ good links is.0 (λ at. trim_goes logs known (here g (named g w)) _ p horizon)
plan_goes s logs known g (Harden w suffix) good links is = one s logs known g w suffix _ good links is (λ at. harden_goes logs known g.config.pages _ _)
plan_goes s logs known g (Ack w lsn suffix) good links is = one s logs known g w suffix _ good links is (λ at. ack_event_goes logs known g.config.pages _ _ lsn)
plan_goes s logs known g (Apply w x suffix) good links is = one s logs known g w suffix _ good links is.0 (λ at. apply_goes logs known g.config.pages _ _ x)
plan_goes s logs known g (Raise w x suffix) good links is = one s logs known g w suffix _ good links is.0 (λ at. raise_goes logs known g.config.pages _ _ x)
plan_goes s logs known g (Redo w suffix) good links is = one s logs known g w suffix _ good links is (λ at. redo_goes logs known g.config.pages _ _)
plan_goes s logs known g (Close w x suffix) good links is = one s logs known g w suffix _ good links is.0 (λ at. close_goes logs known g.config.pages _ _ x)
plan_goes s logs known g (Report w suffix) good links is = one s logs known g w suffix _ good links is (λ at. report_goes logs known g.config.pages _ _ _)
plan_goes s logs known g (Flush w suffix) good links is = one s logs known g w suffix _ good links is (λ at. flush_goes s logs known g.config.pages (named g w) _ _ at)
plan_goes s logs known g (Crash w suffix) good links is = one s logs known g w suffix _ good links is (λ at. crash_goes logs known g.config.pages _ _)
plan_goes s logs known g (Start w suffix) good links is = one s logs known g w suffix _ good links is (λ at. start_goes s logs known (named g w) (here g (named g w)) _ at refl good.now good.primary)
plan_goes s logs known g (Spoil w p x suffix) good links is = one s logs known g w suffix _ good links is.0 (λ at. spoil_goes logs known g.config.pages _ p x)
plan_goes s logs known g (Unread w p suffix) good links is = one s logs known g w suffix _ good links is.0 (λ at. unread_goes logs known g.config.pages _ p)
plan_goes s logs known g (Suspects w suffix) good links is = one s logs known g w suffix _ good links is (λ at. suspects_goes logs known g.config.pages _ _)
plan_goes s logs known g (Page w p suffix) good links is = one s logs known g w suffix _ good links is.0 (λ at. page_goes logs known g.config.pages _ _ p)
plan_goes s logs known g (Sectors w p suffix) good links is = one s logs known g w suffix _ good links is.0 (λ at. sectors_goes logs known g.config.pages _ p)
plan_goes s logs known g (Status w suffix) good links is = one s logs known g w suffix _ good links is (λ at. status_goes logs known g.config.pages _ _)
plan_goes s logs known g (Cut w suffix) good links is = one s logs known g w suffix _ good links is (λ at. cut_event_goes logs known g.config.pages _ _)
plan_goes s logs known g (Mend w suffix) good links is = one s logs known g w suffix _ good links is (λ at. mend_goes logs known g.config.pages _ _)
plan_goes s logs known g (Join w suffix) good links is = one s logs known g w suffix _ good links is (λ at. join_goes logs known g.config.pages _ _ _)
plan_goes s logs known g (Finish w suffix) good links is = one s logs known g w suffix _ good links is (λ at. finish_goes s logs known g.config.pages (named g w) _ _ _ at)
plan_goes s logs known g (Read w x key suffix) good links is = session_goes logs known g (named g w) x _ suffix (based_same known g (named g w) links (named_there s logs g w good is.0)) (read_goes logs known g.config.pages _ _ (token g x) key)
plan_goes s logs known g (Snap w x suffix) good links is = session_goes logs known g (named g w) x _ suffix (based_same known g (named g w) links (named_there s logs g w good is.0)) (snap_goes logs known g.config.pages _ _ (token g x) x)
plan_goes s logs known g (View w x key suffix) good links is = session_goes logs known g (named g w) x _ suffix (based_same known g (named g w) links (named_there s logs g w good is.0)) (view_goes logs known g.config.pages _ _ (token g x) x key)
plan_goes s logs known g (Send w v suffix) good links is = two logs known g _ _ suffix _ links (named_there s logs g w good is.0) (one s logs known g w suffix _ good links is.0 (λ at. send_goes logs known g.config.pages (named g v) _ _ _))
plan_goes s logs known g (Ask w p v suffix) good links is = two logs known g _ _ suffix _ links (named_there s logs g w good is.0.0) (one s logs known g w suffix _ good links is.0.0 (λ at. ask_event_goes logs known g.config.pages (named g v) _ _ p _))
plan_goes s logs known g (Deliver w v i suffix) good links is = two logs known g _ _ suffix _ links (named_there s logs g w good is.0.0) (deliver_goes s logs known g _ _ i false suffix good links (named_there s logs g v good is.0.1))
plan_goes s logs known g (Repeat w v i suffix) good links is = two logs known g _ _ suffix _ links (named_there s logs g w good is.0.0) (deliver_goes s logs known g _ _ i true suffix good links (named_there s logs g v good is.0.1))
plan_goes s logs known g (Lose w v i suffix) good links is = two logs known g _ _ suffix _ links (named_there s logs g w good is.0.0) (lose_goes logs known g _ _ i suffix links (named_there s logs g v good is.0.1))
plan_goes s logs known g (Resume w suffix) good links is = resume_event_goes logs known g (named g w) suffix links (named_there s logs g w good is)
plan_goes s logs known g (Sync w v suffix) good links is = two logs known g _ _ suffix _ links (named_there s logs g w good is.0) (sync_goes logs known g _ _ suffix links (named_there s logs g w good is.0))
plan_goes s logs known g (Timeout w v suffix) good links is = two logs known g _ _ suffix _ links (named_there s logs g w good is.0) (timeout_goes logs known g _ _ suffix links (named_there s logs g w good is.0))
plan_goes s logs known g (Planned w suffix) good links is = planned_goes s logs known g (named g w) suffix good links (named_there s logs g w good is)
plan_goes s logs known g (Auto suffix) good links is = auto_goes s logs known g suffix good links
plan_goes s logs known g (Force w suffix) good links is = force_goes s logs known g (named g w) suffix good links (named_there s logs g w good is)

-- an event with its suffix
pub next_goes : (s : Setting) (logs : Logs) (known : Told) (g : Group) (e : Event) → Good s logs g → AllTold known g → IsEvent s.config e → GroupGoes logs known g (done g e).after
unfolding done
next_goes s logs known g e good links is = plan_goes s logs known g e good links is
