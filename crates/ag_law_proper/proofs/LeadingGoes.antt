-- What the events of transactions, and those of one stripe, make of a primary's log.
use Rattle.std.proofs.Common.{◌≡◌, ℕ, ◌+◌, ◌-◌, ◌≤◌, List, [], ◌∷◌, ◌++◌, length, map, Bool, true, refl, sym, ap, subst, arith, append_assoc, length-append}
use Rattle.std.proofs.lemmas.Bool.{not-false, ltb-false}
use Rattle.ag_model.specs.declared.record.Record.{Record}
use Rattle.ag_model.specs.declared.record.Record.TheVariants.{Trim}
use Rattle.ag_model.specs.declared.value.Change.{Change}
use Rattle.ag_model.specs.declared.event.Pair.{Pair}
use Rattle.ag_model.specs.Page.{value}
use Rattle.ag_model.specs.Sizes.{change_size, free_bytes}
use Rattle.ag_model.specs.Rows.{page_of}
use Rattle.ag_model.specs.Txns.{pages_of}
use Rattle.ag_rules.specs.Replica.{Replica, OpenTxn, end, records, full_log, full_end, effective, least}
use Rattle.ag_rules.specs.Plan.{Here, Part}
use Rattle.ag_rules.specs.Checks.{is_down, is_not_primary, buffer_is_full}
use Rattle.ag_rules.specs.BeginEvent.{begin_part, checks_of_begin, begun}
use Rattle.ag_rules.specs.GetEvent.{get_part, checks_of_txn}
use Rattle.ag_rules.specs.PutEvent.{put_part, checks_of_put, record_of, buffered}
use Rattle.ag_rules.specs.CommitEvent.{end_part, ends_with, end_record, closed_txn}
use Rattle.ag_rules.specs.SetEvent.{set_part, sets, pairs_pass, checks_of_pair, records_of_set, taken_on, pair_size, with_set}
use Rattle.ag_rules.specs.TrimEvent.{trim_part, checks_of_trim, limit, connected_lows}
use Rattle.ag_rules.specs.AckEvent.{ack_part, checks_of_ack, late}
use Rattle.ag_rules.specs.ApplyEvent.{apply_part, checks_of_apply, applied_one, next_of_stripe, touched_in_stripe, due_in_stripe}
use Rattle.ag_rules.specs.RaiseEvent.{raise_part, checks_of_raise, raised}
use Rattle.ag_rules.specs.Redo.{notes_of, installs_of, installed}
use Rattle.ag_lists.proofs.Each.{all_append}
use Rattle.ag_laws.specs.Logs.{Logs}
use Rattle.ag_laws.proofs.Steps.{IsSmall}
use Rattle.ag_laws.proofs.Disks.{notes_are_small, installs_are_small}
use Rattle.ag_law_proper.specs.Growth.{lead_of, Leads, Opens, Changes, Closes, Ends, Sets, Trims, PairsFit, free_on, Told, closed}
use Rattle.ag_law_proper.proofs.Parts.{PartGoes, lead_same, at_once_goes, same_goes, checked_goes, small_goes, access_goes}

pub begin_goes : (logs : Logs) (told : Told) (pages : ℕ) (h : Here) (r : Replica) → PartGoes logs told pages r (begin_part h r)
unfolding begin_part
begin_goes logs told pages h r = checked_goes logs told pages r (checks_of_begin h r) _ (λ p. at_once_goes logs told pages r _ (begun r) refl (Leads (not-false _ p.1.0) (Opens (full_end r) refl)))

pub get_goes : (logs : Logs) (told : Told) (pages : ℕ) (h : Here) (r : Replica) (txn key : ℕ) → PartGoes logs told pages r (get_part h r txn key)
unfolding get_part
get_goes logs told pages h r txn key = checked_goes logs told pages r (checks_of_txn h r txn) _ (λ _. access_goes logs told pages r (page_of h.pages key) _ (same_goes logs told pages r _))

-- the end of log and buffer
end_is : (r : Replica) → full_end r ≡ length (full_log r)
end_is r = sym (length-append (records r) r.leading.buffer)

-- what is free on an effective page
free_is : (r : Replica) (pages p : ℕ) → free_bytes (effective pages r p) ≡ free_on pages (full_log r) p
free_is r pages p = ap (λ n. free_bytes (value pages (full_log r) n p)) (end_is r)

-- more records in the buffer
lead_buffered : (r : Replica) (new : List Record) → full_log (buffered r new) ≡ full_log r ++ new
lead_buffered r new = sym (append_assoc (records r) r.leading.buffer new)

pub put_goes : (logs : Logs) (told : Told) (h : Here) (r : Replica) (txn key : ℕ) (c : Change) → PartGoes logs told h.pages r (put_part h r txn key c)
unfolding put_part
put_goes logs told h r txn key c =
    let pages : ℕ = h.pages in
    let p : ℕ = page_of pages key in
    checked_goes logs told pages r (checks_of_txn h r txn) _ (λ t. access_goes logs told pages r p _
    (checked_goes logs told pages r (checks_of_put r txn key c (effective pages r p)) _ (λ q.
    at_once_goes logs told pages r _ (buffered r (record_of txn key c ∷ [])) refl
    (Leads (not-false _ t.1.0) (Changes txn key c (not-false _ t.1.1.0)
    (omega (arith, ltb-false (free_bytes (effective pages r p)) (change_size c) q.1.1.0, free_is r pages p))
    (ltb-false _ _ q.1.1.1.0)
    (ap (λ l. record { log = l; buffer = r.leading.buffer ++ record_of txn key c ∷ []; open_txns = r.leading.open_txns; last_txn = r.leading.last_txn }) (lead_buffered r (record_of txn key c ∷ []))))))))

ends_goes : (logs : Logs) (told : Told) (pages : ℕ) (commits : Bool) (r : Replica) (txn : ℕ) (ps : List ℕ) → r.leads ≡ true → Rattle.ag_rules.specs.GetEvent.is_open r txn ≡ true → ps ≡ pages_of pages txn (full_log r) → PartGoes logs told pages r (ends_with commits r txn ps)
ends_goes logs told pages commits r txn [] leads is_open e = at_once_goes logs told pages r _ (closed_txn r txn) refl (Leads leads (Closes txn (sym e) refl))
ends_goes logs told pages commits r txn (p ∷ ps) leads is_open e =
    let new : List Record = end_record commits txn (p ∷ ps) ∷ [] in
    checked_goes logs told pages r (buffer_is_full r new ∷ []) _ (λ q.
    at_once_goes logs told pages r _ (buffered (closed_txn r txn) new) refl
    (Leads leads (Ends commits txn (p ∷ ps) is_open e (ltb-false _ _ q.0)
    (ap (λ l. record { log = l; buffer = r.leading.buffer ++ new; open_txns = (closed txn (lead_of r)).open_txns; last_txn = r.leading.last_txn }) (lead_buffered r new)))))

pub end_goes : (logs : Logs) (told : Told) (commits : Bool) (h : Here) (r : Replica) (txn : ℕ) → PartGoes logs told h.pages r (end_part commits h r txn)
unfolding end_part
end_goes logs told commits h r txn = checked_goes logs told h.pages r (checks_of_txn h r txn) _ (λ t. ends_goes logs told h.pages commits r txn (pages_of h.pages txn (full_log r)) (not-false _ t.1.0) (not-false _ t.1.1.0) refl)

pairs_go : (logs : Logs) (told : Told) (h : Here) (r : Replica) (txn : ℕ) (earlier pairs : List Pair) (part : Part) → (PairsFit h.pages (full_log r) earlier pairs → PartGoes logs told h.pages r part) → PartGoes logs told h.pages r (pairs_pass h r txn earlier pairs part)
pairs_go logs told h r txn earlier [] part goes = goes tt
pairs_go logs told h r txn earlier (pair ∷ pairs) part goes =
    let p : ℕ = page_of h.pages pair.key in
    access_goes logs told h.pages r p _
    (checked_goes logs told h.pages r (checks_of_pair h.pages txn earlier pair (effective h.pages r p)) _
    (λ q. pairs_go logs told h r txn (earlier ++ pair ∷ []) pairs part (λ fit. goes (
      subst (λ (n : ℕ). pair_size pair ≤ n - taken_on h.pages p earlier) (free_is r h.pages p) (ltb-false _ _ q.1.0),
      fit,
    ))))

pub set_goes : (logs : Logs) (told : Told) (h : Here) (r : Replica) (pairs : List Pair) → PartGoes logs told h.pages r (set_part h r pairs)
unfolding set_part
set_goes logs told h r pairs =
    let new : List Record = records_of_set h.pages (r.leading.last_txn + 1) pairs in
    checked_goes logs told h.pages r (checks_of_begin h r) _ (λ t.
    pairs_go logs told h r (r.leading.last_txn + 1) [] pairs (sets r new) (λ fit.
    checked_goes logs told h.pages r (buffer_is_full r new ∷ []) _ (λ q.
    at_once_goes logs told h.pages r _ (with_set r new) refl
    (Leads (not-false _ t.1.0) (Sets pairs fit (ltb-false _ _ q.0)
    (ap (λ l. record { log = l; buffer = r.leading.buffer ++ new; open_txns = r.leading.open_txns; last_txn = r.leading.last_txn + 1 }) (lead_buffered r new)))))))

-- the limit of a Trim is at most the hardened end
limit_le : (own : ℕ) (xs : List ℕ) → least (own ∷ xs) ≤ own
limit_le own [] = omega arith
limit_le own (x ∷ xs) = omega arith

pub trim_goes : (logs : Logs) (told : Told) (h : Here) (r : Replica) (p horizon : ℕ) → PartGoes logs told h.pages r (trim_part h r p horizon)
unfolding trim_part
trim_goes logs told h r p horizon =
    checked_goes logs told h.pages r (is_down h r ∷ is_not_primary h r ∷ []) _ (λ t. access_goes logs told h.pages r p _
    (checked_goes logs told h.pages r (checks_of_trim r p horizon (effective h.pages r p)) _ (λ q.
    at_once_goes logs told h.pages r _ (buffered r (Trim p horizon ∷ [])) refl
    (Leads (not-false _ t.1.0) (Trims p horizon
    (omega (arith, ltb-false (limit r) horizon q.0, limit_le (end r) (map (λ (t : OpenTxn). t.snapshot) r.leading.open_txns ++ connected_lows r.leading.peers), end_is r))
    (ltb-false _ _ q.1.1.0)
    (ap (λ l. record { log = l; buffer = r.leading.buffer ++ Trim p horizon ∷ []; open_txns = r.leading.open_txns; last_txn = r.leading.last_txn }) (lead_buffered r (Trim p horizon ∷ []))))))))

pub ack_event_goes : (logs : Logs) (told : Told) (pages : ℕ) (h : Here) (r : Replica) (lsn : ℕ) → PartGoes logs told pages r (ack_part h r lsn)
unfolding ack_part
ack_event_goes logs told pages h r lsn = checked_goes logs told pages r (checks_of_ack h r lsn (late h r lsn)) _ (λ _. same_goes logs told pages r _)

pub raise_goes : (logs : Logs) (told : Told) (pages : ℕ) (h : Here) (r : Replica) (x : ℕ) → PartGoes logs told pages r (raise_part h r x)
unfolding raise_part
raise_goes logs told pages h r x = checked_goes logs told pages r (checks_of_raise h r x) _ (λ _. at_once_goes logs told pages r _ (raised r x) refl (lead_same pages r (raised r x) refl refl))

pub apply_goes : (logs : Logs) (told : Told) (pages : ℕ) (h : Here) (r : Replica) (x : ℕ) → PartGoes logs told pages r (apply_part h r x)
unfolding apply_part
apply_goes logs told pages h r x =
    let high : ℕ = next_of_stripe r x in
    let touched : List ℕ = touched_in_stripe h.pages r x high in
    let one : Replica = applied_one touched r x high in
    let due : List ℕ = due_in_stripe h.pages one x in
    let then_ : Replica = installed due one in
    checked_goes logs told pages r (checks_of_apply h r x) _ (λ _. small_goes logs told pages r _ (notes_of r touched ++ installs_of r due) then_ refl
    (all_append IsSmall (notes_of r touched) (installs_of r due) (notes_are_small r touched) (installs_are_small r due)) (lead_same pages r then_ refl refl))
