-- Events that leave log, saved term, state and ticket: those of transactions, of redo, of reads and looks, and the damage.
use Rattle.std.proofs.Common.{◌≡◌, ℕ, zero, suc, ◌+◌, List, [], ◌∷◌, ◌++◌, take, get_or, Bool, true, false, inl, refl, sym, ap, ◌∙◌, subst, arith}
use Rattle.std.specs.Prelude.{Option}
use Rattle.std.specs.List.{AllByRecursion}
use Rattle.ag_model.specs.declared.record.Record.{Record}
use Rattle.ag_model.specs.declared.record.Log.{Log}
use Rattle.ag_model.specs.declared.value.Change.{Change}
use Rattle.ag_model.specs.declared.config.Ticket.{Ticket}
use Rattle.ag_model.specs.declared.config.Token.{Token}
use Rattle.ag_rules.specs.ResumeMessage.{waits_for}
use Rattle.ag_model.specs.declared.answer.Answer.{Answer}
use Rattle.ag_model.specs.declared.answer.Answer.TheVariants.{No}
use Rattle.ag_model.specs.declared.answer.Cell.{Cell}
use Rattle.ag_model.specs.declared.answer.Refusal.TheVariants.{Nothing}
use Rattle.ag_model.specs.declared.event.Pair.{Pair}
use Rattle.ag_model.specs.Rows.{page_of}
use Rattle.ag_model.specs.Txns.{pages_of}
use Rattle.ag_rules.specs.Replica.{Replica, Kept, Master, Leading, Peer, end, full_log, effective, page_value, image, page, with_page, with_image, no_peer, front, is_reverting}
use Rattle.ag_rules.specs.Plan.{Here, Part, Check, Write, Batch, Note_write, all_written, each_synced, at_once, writing, unless}
use Rattle.ag_rules.specs.Checks.{is_down, is_not_primary, is_not_secondary, reverts, buffer_is_full}
use Rattle.ag_rules.specs.Access.{access, cases_of_access, pended, kind_of}
use Rattle.ag_rules.specs.BeginEvent.{begin_part, checks_of_begin}
use Rattle.ag_rules.specs.GetEvent.{get_part, checks_of_txn}
use Rattle.ag_rules.specs.PutEvent.{put_part, checks_of_put}
use Rattle.ag_rules.specs.CommitEvent.{end_part, ends_with, end_record}
use Rattle.ag_rules.specs.SetEvent.{set_part, sets, pairs_pass, checks_of_pair, records_of_set}
use Rattle.ag_rules.specs.TrimEvent.{trim_part, checks_of_trim}
use Rattle.ag_rules.specs.AckEvent.{ack_part, checks_of_ack, late}
use Rattle.ag_rules.specs.ApplyEvent.{apply_part, checks_of_apply, applied_one, next_of_stripe, touched_in_stripe, due_in_stripe}
use Rattle.ag_rules.specs.RaiseEvent.{raise_part, checks_of_raise, raised}
use Rattle.ag_rules.specs.Redo.{notes_of, installs_of, installed, touched_up_to, due_pages}
use Rattle.ag_rules.specs.RedoEvent.{redo_part, checks_of_redo, redone_whole}
use Rattle.ag_rules.specs.ReadEvent.{read_part, view_part, checks_of_read, checks_of_view, reads_at, is_too_old, snapshots_of, snapshot_lsn, no_snapshot}
use Rattle.ag_rules.specs.SnapEvent.{snap_part, close_part, without_snapshot, with_snapshot, has_snapshot}
use Rattle.ag_rules.specs.LookEvent.{suspects_part, page_part, sectors_part, status_part}
use Rattle.ag_rules.specs.SpoilEvent.{spoil_part, unread_part, checks_of_damage, damaged}
use Rattle.ag_rules.specs.AskEvent.{ask_part, checks_of_page_ask}
use Rattle.ag_rules.specs.CutEvent.{cut_part}
use Rattle.std.proofs.lemmas.Bool.{false≢true}
use Rattle.ag_lists.proofs.Each.{all_append}
use Rattle.ag_laws.proofs.Prefix.{prefix_refl}
use Rattle.ag_laws.proofs.Plans.{Passes, unless_has, case_has}
use Rattle.ag_laws.proofs.Disks.{SameCore, core_refl, small_all, small_some, each_batches, notes_are_small, installs_are_small}
use Rattle.ag_laws.proofs.Steps.{IsSmall, IsBatch}
use Rattle.ag_law_kept.specs.Holds.{IsSaved}
use Rattle.ag_law_kept.proofs.Goes.{DiskGoes, disk_core, ReplicaGoes, Fit, LeadsOn, IsOut, PartGoes}

-- an event that a primary goes on after
pub record PartCalm (pages : ℕ) (r : Replica) (part : Part) : Type 0 where
  pub goes : PartGoes pages r part
  pub leads : part.after.leads ≡ true → LeadsOn r part.after

pub disk_refl : (pages : ℕ) (k : Kept) → IsSaved pages k.master → DiskGoes pages k k
disk_refl pages k s = record { prefix = prefix_refl k.log.records; term = omega arith; saved = s; normal = λ e. e }

-- a replica that keeps its disk, its state and its ticket
pub still : (pages : ℕ) (r r2 : Replica) → Fit pages r → r2.kept ≡ r.kept → r2.state ≡ r.state → r2.following.ticket ≡ r.following.ticket → ReplicaGoes pages r r2
still pages r r2 f kept state ticket = record {
  disk = subst (λ (k : Kept). DiskGoes pages r.kept k) (sym kept) (disk_refl pages r.kept f.disk);
  low = λ e. omega (arith, state, f.low (ap is_reverting (sym state) ∙ e));
  saved = ap (λ (k : Kept). is_reverting k.master.state) kept ∙ f.saved ∙ ap is_reverting (sym state);
  normal = λ e. ap is_reverting state ∙ e;
  waits = λ t w. subst (λ (o : Option Ticket). waits_for o t ≡ true) ticket w;
  follows = λ e. ticket ∙ f.follows (sym state ∙ e);
  whole = λ e t w. (sym state ∙ e, ap (λ (k : Kept). k.log.records) kept);
}

-- a primary that keeps its term, its copy and its peers
pub leads_still : (r r2 : Replica) → r2.state ≡ r.state → r2.following.ticket ≡ r.following.ticket → r2.leads ≡ r.leads → r2.term ≡ r.term → r2.cut_off ≡ r.cut_off → r2.leading.synced ≡ r.leading.synced → r2.leading.peers ≡ r.leading.peers → r2.leads ≡ true → LeadsOn r r2
leads_still r r2 state ticket leads term cut synced peers e = record {
  leads = sym leads ∙ e;
  term = term;
  cut = λ c. sym cut ∙ c;
  synced = synced;
  known = λ m. ap (λ (ps : List Peer). (get_or ps m no_peer).hardened) peers;
  free = λ e. ticket ∙ e;
  normal = λ e. ap is_reverting state ∙ e;
}

-- an event that writes nothing
pub quiet_calm : (pages : ℕ) (r : Replica) (part : Part) → Fit pages r → part.writes ≡ [] → ReplicaGoes pages r part.after → (part.after.leads ≡ true → LeadsOn r part.after) → IsOut part.after part.out → PartCalm pages r part
quiet_calm pages r part f none after leads out = record {
  goes = record {
    batches = subst (λ (ws : List Batch). AllByRecursion IsBatch ws) (sym none) tt;
    writes = λ j. subst (λ (ws : List Batch). DiskGoes pages r.kept (all_written r.kept (take j ws))) (sym none) (of_none j);
    after = after;
    out = out;
  };
  leads = leads;
}
  where
    of_none : (j : ℕ) → DiskGoes pages r.kept (all_written r.kept (take j []))
    of_none zero = disk_refl pages r.kept f.disk
    of_none (suc j) = disk_refl pages r.kept f.disk

-- an answer that changes nothing
pub same_calm : (pages : ℕ) (r : Replica) (a : Answer) → Fit pages r → PartCalm pages r (at_once a r)
same_calm pages r a f = quiet_calm pages r (at_once a r) f refl (still pages r r f refl refl refl) (leads_still r r refl refl refl refl refl refl refl) (inl tt)

pub checked_calm : (pages : ℕ) (r : Replica) (checks : List Check) (part : Part) → Fit pages r → (Passes checks → PartCalm pages r part) → PartCalm pages r (unless checks r part)
checked_calm pages r checks part f then_ = unless_has (PartCalm pages r) checks r part (λ why. same_calm pages r (No why) f) then_

-- a replica that keeps what matters
pub still_calm : (pages : ℕ) (r : Replica) (a : Answer) (r2 : Replica) → Fit pages r → r2.kept ≡ r.kept → r2.state ≡ r.state → r2.following.ticket ≡ r.following.ticket → r2.leads ≡ r.leads → r2.term ≡ r.term → r2.cut_off ≡ r.cut_off → r2.leading.synced ≡ r.leading.synced → r2.leading.peers ≡ r.leading.peers → PartCalm pages r (at_once a r2)
still_calm pages r a r2 f kept state ticket leads term cut synced peers = quiet_calm pages r (at_once a r2) f refl (still pages r r2 f kept state ticket) (leads_still r r2 state ticket leads term cut synced peers) (inl tt)

-- a replica with a disk of the same log and master
pub goes_core : (pages : ℕ) (r r2 : Replica) (k j : Kept) → SameCore k j → ReplicaGoes pages r (record r2 { kept = k }) → ReplicaGoes pages r (record r2 { kept = j })
goes_core pages r r2 k j c g = record {
  disk = disk_core pages r.kept k j c g.disk;
  low = g.low;
  saved = ap (λ (m : Master). is_reverting m.state) (sym c.master) ∙ g.saved;
  normal = g.normal;
  waits = g.waits;
  follows = g.follows;
  whole = λ e t w. let h = g.whole e t w in (h.0, ap (λ (l : Log). l.records) (sym c.log) ∙ h.1);
}

-- small writes
pub small_calm : (pages : ℕ) (r : Replica) (a : Answer) (ws : List Write) (r2 : Replica) → Fit pages r → AllByRecursion IsSmall ws → r2.kept ≡ r.kept → r2.state ≡ r.state → r2.following.ticket ≡ r.following.ticket → r2.leads ≡ r.leads → r2.term ≡ r.term → r2.cut_off ≡ r.cut_off → r2.leading.synced ≡ r.leading.synced → r2.leading.peers ≡ r.leading.peers → PartCalm pages r (writing a (each_synced ws) [] r2)
small_calm pages r a ws r2 f small kept state ticket leads term cut synced peers = record {
  goes = record {
    batches = each_batches ws;
    writes = λ j. disk_core pages r.kept r.kept _ (small_some r.kept ws j small) (disk_refl pages r.kept f.disk);
    after = goes_core pages r r2 r2.kept (all_written r2.kept (each_synced ws)) (small_all r2.kept ws small) (still pages r r2 f kept state ticket);
    out = inl tt;
  };
  leads = λ e. let l : LeadsOn r r2 = leads_still r r2 state ticket leads term cut synced peers e in record { leads = l.leads; term = l.term; cut = l.cut; synced = l.synced; known = l.known; free = l.free; normal = l.normal };
}

-- the access to a page
pub access_calm : (pages : ℕ) (r : Replica) (p : ℕ) (part : Part) → Fit pages r → PartCalm pages r part → PartCalm pages r (access r p part)
unfolding access
access_calm pages r p part f calm =
    case_has (PartCalm pages r) (cases_of_access r p) part (
      (λ _. same_calm pages r _ f),
      (
        (λ _. still_calm pages r _ (pended r p) f refl refl refl refl refl refl refl refl),
        ((λ _. small_calm pages r _ (Note_write p (kind_of (image r.kept p)) ∷ []) (pended r p) f (tt, tt) refl refl refl refl refl refl refl refl), tt),
      ),
    )
    (λ _. calm)

-- a primary with another buffer and other transactions
buffer_calm : (pages : ℕ) (r : Replica) (a : Answer) (leading : Leading) → Fit pages r → leading.synced ≡ r.leading.synced → leading.peers ≡ r.leading.peers → PartCalm pages r (at_once a (record r { leading = leading }))
buffer_calm pages r a leading f synced peers = still_calm pages r a (record r { leading = leading }) f refl refl refl refl refl refl synced peers

pub begin_calm : (h : Here) (r : Replica) → Fit h.pages r → PartCalm h.pages r (begin_part h r)
unfolding begin_part
begin_calm h r f = checked_calm h.pages r (checks_of_begin h r) _ f (λ _. buffer_calm h.pages r _ _ f refl refl)

pub get_calm : (h : Here) (r : Replica) (txn key : ℕ) → Fit h.pages r → PartCalm h.pages r (get_part h r txn key)
unfolding get_part
get_calm h r txn key f = checked_calm h.pages r (checks_of_txn h r txn) _ f (λ _. access_calm h.pages r (page_of h.pages key) _ f (same_calm h.pages r _ f))

pub put_calm : (h : Here) (r : Replica) (txn key : ℕ) (c : Change) → Fit h.pages r → PartCalm h.pages r (put_part h r txn key c)
unfolding put_part
put_calm h r txn key c f =
    checked_calm h.pages r (checks_of_txn h r txn) _ f (λ _. access_calm h.pages r (page_of h.pages key) _ f
    (checked_calm h.pages r (checks_of_put r txn key c (effective h.pages r (page_of h.pages key))) _ f (λ _. buffer_calm h.pages r _ _ f refl refl)))

ends_calm : (pages : ℕ) (commits : Bool) (r : Replica) (txn : ℕ) (ps : List ℕ) → Fit pages r → PartCalm pages r (ends_with commits r txn ps)
ends_calm pages commits r txn [] f = buffer_calm pages r _ _ f refl refl
ends_calm pages commits r txn (p ∷ ps) f = checked_calm pages r (buffer_is_full r (end_record commits txn (p ∷ ps) ∷ []) ∷ []) _ f (λ _. buffer_calm pages r _ _ f refl refl)

pub end_calm : (commits : Bool) (h : Here) (r : Replica) (txn : ℕ) → Fit h.pages r → PartCalm h.pages r (end_part commits h r txn)
unfolding end_part
end_calm commits h r txn f = checked_calm h.pages r (checks_of_txn h r txn) _ f (λ _. ends_calm h.pages commits r txn (pages_of h.pages txn (full_log r)) f)

pairs_calm : (h : Here) (r : Replica) (txn : ℕ) (earlier pairs : List Pair) (part : Part) → Fit h.pages r → PartCalm h.pages r part → PartCalm h.pages r (pairs_pass h r txn earlier pairs part)
pairs_calm h r txn earlier [] part f calm = calm
pairs_calm h r txn earlier (pair ∷ pairs) part f calm =
    access_calm h.pages r (page_of h.pages pair.key) _ f
    (checked_calm h.pages r (checks_of_pair h.pages txn earlier pair (effective h.pages r (page_of h.pages pair.key))) _ f
    (λ _. pairs_calm h r txn (earlier ++ pair ∷ []) pairs part f calm))

pub set_calm : (h : Here) (r : Replica) (pairs : List Pair) → Fit h.pages r → PartCalm h.pages r (set_part h r pairs)
unfolding set_part
set_calm h r pairs f =
    let txn : ℕ = r.leading.last_txn + 1 in
    let new : List Record = records_of_set h.pages txn pairs in
    checked_calm h.pages r (checks_of_begin h r) _ f
    (λ _. pairs_calm h r txn [] pairs (sets r new) f
    (checked_calm h.pages r (buffer_is_full r new ∷ []) _ f (λ _. buffer_calm h.pages r _ _ f refl refl)))

pub trim_calm : (h : Here) (r : Replica) (p horizon : ℕ) → Fit h.pages r → PartCalm h.pages r (trim_part h r p horizon)
unfolding trim_part
trim_calm h r p horizon f =
    checked_calm h.pages r (is_down h r ∷ is_not_primary h r ∷ []) _ f (λ _. access_calm h.pages r p _ f
    (checked_calm h.pages r (checks_of_trim r p horizon (effective h.pages r p)) _ f (λ _. buffer_calm h.pages r _ _ f refl refl)))

pub ack_event_calm : (h : Here) (r : Replica) (lsn : ℕ) → Fit h.pages r → PartCalm h.pages r (ack_part h r lsn)
unfolding ack_part
ack_event_calm h r lsn f = checked_calm h.pages r (checks_of_ack h r lsn (late h r lsn)) _ f (λ _. same_calm h.pages r _ f)

pub raise_calm : (h : Here) (r : Replica) (x : ℕ) → Fit h.pages r → PartCalm h.pages r (raise_part h r x)
unfolding raise_part
raise_calm h r x f = checked_calm h.pages r (checks_of_raise h r x) _ f (λ _. still_calm h.pages r _ (raised r x) f refl refl refl refl refl refl refl refl)

pub apply_calm : (h : Here) (r : Replica) (x : ℕ) → Fit h.pages r → PartCalm h.pages r (apply_part h r x)
unfolding apply_part
apply_calm h r x f =
    let high : ℕ = next_of_stripe r x in
    let touched : List ℕ = touched_in_stripe h.pages r x high in
    let one : Replica = applied_one touched r x high in
    let due : List ℕ = due_in_stripe h.pages one x in
    checked_calm h.pages r (checks_of_apply h r x) _ f
    (λ _. small_calm h.pages r _ (notes_of r touched ++ installs_of r due) (installed due one) f (all_append IsSmall (notes_of r touched) (installs_of r due) (notes_are_small r touched) (installs_are_small r due)) refl refl refl refl refl refl refl refl)

pub redo_calm : (h : Here) (r : Replica) → Fit h.pages r → PartCalm h.pages r (redo_part h r)
unfolding redo_part
redo_calm h r f =
    let touched : List ℕ = touched_up_to h.pages (end r) r in
    let due : List ℕ = due_pages h.pages (redone_whole touched r) in
    checked_calm h.pages r (checks_of_redo h r) _ f
    (λ _. small_calm h.pages r _ (notes_of r touched ++ installs_of r due) (installed due (redone_whole touched r)) f (all_append IsSmall (notes_of r touched) (installs_of r due) (notes_are_small r touched) (installs_are_small r due)) refl refl refl refl refl refl refl refl)

reads_calm : (h : Here) (r : Replica) (lsn key : ℕ) → Fit h.pages r → PartCalm h.pages r (reads_at h r lsn key)
reads_calm h r lsn key f =
    access_calm h.pages r (page_of h.pages key) _ f
    (checked_calm h.pages r (is_too_old lsn (page_value h.pages r (page_of h.pages key)).horizon ∷ []) _ f (λ _. same_calm h.pages r _ f))

pub read_calm : (h : Here) (r : Replica) (t : Token) (key : ℕ) → Fit h.pages r → PartCalm h.pages r (read_part h r t key)
unfolding read_part
read_calm h r t key f = checked_calm h.pages r (checks_of_read h r t) _ f (λ _. reads_calm h r (front r) key f)

pub view_calm : (h : Here) (r : Replica) (t : Token) (x key : ℕ) → Fit h.pages r → PartCalm h.pages r (view_part h r t x key)
unfolding view_part
view_calm h r t x key f = checked_calm h.pages r (checks_of_view h r t (snapshots_of r x)) _ f (λ _. reads_calm h r (snapshot_lsn (snapshots_of r x)) key f)

pub snap_calm : (h : Here) (r : Replica) (t : Token) (x : ℕ) → Fit h.pages r → PartCalm h.pages r (snap_part h r t x)
unfolding snap_part
snap_calm h r t x f = checked_calm h.pages r (checks_of_read h r t ++ has_snapshot r x ∷ []) _ f (λ _. still_calm h.pages r _ (with_snapshot r x) f refl refl refl refl refl refl refl refl)

pub close_calm : (h : Here) (r : Replica) (x : ℕ) → Fit h.pages r → PartCalm h.pages r (close_part h r x)
unfolding close_part
close_calm h r x f = checked_calm h.pages r (is_down h r ∷ is_not_secondary h r ∷ no_snapshot (snapshots_of r x) ∷ []) _ f (λ _. still_calm h.pages r _ (without_snapshot r x) f refl refl refl refl refl refl refl refl)

pub suspects_calm : (h : Here) (r : Replica) → Fit h.pages r → PartCalm h.pages r (suspects_part h r)
unfolding suspects_part
suspects_calm h r f = checked_calm h.pages r (is_down h r ∷ []) _ f (λ _. same_calm h.pages r _ f)

pub page_calm : (h : Here) (r : Replica) (p : ℕ) → Fit h.pages r → PartCalm h.pages r (page_part h r p)
unfolding page_part
page_calm h r p f = checked_calm h.pages r (is_down h r ∷ reverts r ∷ []) _ f (λ _. same_calm h.pages r _ f)

pub sectors_calm : (pages : ℕ) (r : Replica) (p : ℕ) → Fit pages r → PartCalm pages r (sectors_part r p)
unfolding sectors_part
sectors_calm pages r p f = same_calm pages r _ f

pub status_calm : (h : Here) (r : Replica) → Fit h.pages r → PartCalm h.pages r (status_part h r)
unfolding status_part
status_calm h r f = checked_calm h.pages r (is_down h r ∷ []) _ f (λ _. same_calm h.pages r _ f)

-- a page that is damaged from outside
damaged_calm : (pages : ℕ) (r : Replica) (p : ℕ) (cells : List Cell) (a : Answer) → Fit pages r → PartCalm pages r (at_once a (damaged r p cells))
damaged_calm pages r p cells a f =
    let r2 : Replica = with_page r p (record (page r p) { dirty = false }) in
    quiet_calm pages r (at_once a (damaged r p cells)) f refl
    (goes_core pages r r2 r.kept (with_image r.kept p cells) (core_refl r.kept (with_image r.kept p cells) refl refl) (still pages r r2 f refl refl refl))
    (leads_still r (damaged r p cells) refl refl refl refl refl refl refl) (inl tt)

pub spoil_calm : (pages : ℕ) (r : Replica) (p x : ℕ) → Fit pages r → PartCalm pages r (spoil_part r p x)
unfolding spoil_part
spoil_calm pages r p x f = checked_calm pages r (checks_of_damage r p) _ f (λ _. damaged_calm pages r p _ _ f)

pub unread_calm : (pages : ℕ) (r : Replica) (p : ℕ) → Fit pages r → PartCalm pages r (unread_part r p)
unfolding unread_part
unread_calm pages r p f = checked_calm pages r (checks_of_damage r p) _ f (λ _. damaged_calm pages r p _ _ f)

pub ask_event_calm : (h : Here) (r : Replica) (p m : ℕ) (full : Bool) → Fit h.pages r → PartCalm h.pages r (ask_part h r p m full)
unfolding ask_part
ask_event_calm h r p m full f = checked_calm h.pages r (checks_of_page_ask h r p m full) _ f (λ _. quiet_calm h.pages r _ f refl (still h.pages r r f refl refl refl) (leads_still r r refl refl refl refl refl refl refl) (inl (tt, tt)))

pub cut_event_calm : (h : Here) (r : Replica) → Fit h.pages r → PartCalm h.pages r (cut_part h r)
unfolding cut_part
cut_event_calm h r f =
    let r2 : Replica = record r { cut_off = true } in
    checked_calm h.pages r (record { when = r.cut_off; refusal = Nothing } ∷ []) _ f
    (λ _. quiet_calm h.pages r _ f refl (still h.pages r r2 f refl refl refl) (λ e. record { leads = e; term = refl; cut = λ c. absurd (false≢true (sym c)); synced = refl; known = λ m. refl; free = λ q. q; normal = λ q. q }) (inl tt))
