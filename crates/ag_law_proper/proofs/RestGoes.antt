-- Events that leave each log: reads, looks, redo, writes of pages, damage, what the store knows, and those that only ask.
use Rattle.std.proofs.Common.{◌≡◌, ℕ, List, [], ◌∷◌, ◌++◌, Bool, false, refl, sym}
use Rattle.std.specs.Prelude.{◌==◌, not}
use Rattle.ag_model.specs.declared.config.Token.{Token}
use Rattle.ag_model.specs.declared.answer.Cell.{Cell}
use Rattle.ag_model.specs.declared.answer.Answer.{Answer}
use Rattle.ag_model.specs.declared.answer.Answer.TheVariants.{Mended}
use Rattle.ag_model.specs.declared.answer.Refusal.TheVariants.{Nothing}
use Rattle.ag_model.specs.Rows.{page_of, rows}
use Rattle.ag_rules.specs.Replica.{Replica, Kept, Master, records, end, page_value, fallen, stepped_down, each_page}
use Rattle.ag_rules.specs.Plan.{Here, Master_write, written, all_written, at_once}
use Rattle.ag_rules.specs.Checks.{is_down, reverts, is_not_secondary}
use Rattle.ag_rules.specs.ReadEvent.{read_part, view_part, checks_of_read, checks_of_view, reads_at, is_too_old, row_answer, snapshots_of, no_snapshot}
use Rattle.ag_rules.specs.SnapEvent.{snap_part, has_snapshot, with_snapshot, close_part, without_snapshot}
use Rattle.ag_rules.specs.Redo.{notes_of, installs_of, touched_up_to, due_pages, installed}
use Rattle.ag_rules.specs.RedoEvent.{redo_part, checks_of_redo, redone_whole}
use Rattle.ag_rules.specs.FlushEvent.{flush_part, checks_of_flush, flush_writes, by_eights, pages_to_flush, flushed_master, cleaned}
use Rattle.ag_rules.specs.FinishEvent.{finish_part, checks_of_finish, finished, finished_master}
use Rattle.ag_rules.specs.ReportEvent.{report_part, checks_of_report}
use Rattle.ag_rules.specs.LookEvent.{suspects_part, page_part, sectors_part, status_part}
use Rattle.ag_rules.specs.SpoilEvent.{spoil_part, unread_part, checks_of_damage, damaged}
use Rattle.ag_rules.specs.AskEvent.{ask_part, checks_of_page_ask}
use Rattle.ag_rules.specs.CutEvent.{cut_part, mend_part, told}
use Rattle.ag_rules.specs.CrashEvent.{crash_part}
use Rattle.ag_lists.proofs.Tests.{if_has}
use Rattle.ag_lists.proofs.Each.{all_append}
use Rattle.ag_laws.specs.Logs.{Logs, Setting}
use Rattle.ag_laws.specs.At.{At}
use Rattle.ag_laws.proofs.Steps.{IsSmall}
use Rattle.ag_laws.proofs.Disks.{SameCore, notes_are_small, installs_are_small}
use Rattle.ag_laws.proofs.Flushed.{flush_batches, flush_some, flush_all}
use Rattle.ag_law_proper.specs.Growth.{Told, Stands, Follows, Plain}
use Rattle.ag_law_proper.proofs.Parts.{PartGoes, lead_same, lead_core, quiet_goes, at_once_goes, same_goes, checked_goes, small_goes, access_goes, remaster_goes, mastered}

reads_go : (logs : Logs) (told : Told) (pages : ℕ) (h : Here) (r : Replica) (lsn key : ℕ) → PartGoes logs told pages r (reads_at h r lsn key)
reads_go logs told pages h r lsn key = access_goes logs told pages r (page_of h.pages key) _ (checked_goes logs told pages r (is_too_old lsn (page_value h.pages r (page_of h.pages key)).horizon ∷ []) _ (λ _. same_goes logs told pages r (row_answer lsn (rows (records r) lsn key))))

pub read_goes : (logs : Logs) (told : Told) (pages : ℕ) (h : Here) (r : Replica) (t : Token) (key : ℕ) → PartGoes logs told pages r (read_part h r t key)
unfolding read_part
read_goes logs told pages h r t key = checked_goes logs told pages r (checks_of_read h r t) _ (λ _. reads_go logs told pages h r _ key)

pub view_goes : (logs : Logs) (told : Told) (pages : ℕ) (h : Here) (r : Replica) (t : Token) (x key : ℕ) → PartGoes logs told pages r (view_part h r t x key)
unfolding view_part
view_goes logs told pages h r t x key = checked_goes logs told pages r (checks_of_view h r t (snapshots_of r x)) _ (λ _. reads_go logs told pages h r _ key)

pub snap_goes : (logs : Logs) (told : Told) (pages : ℕ) (h : Here) (r : Replica) (t : Token) (x : ℕ) → PartGoes logs told pages r (snap_part h r t x)
unfolding snap_part
snap_goes logs told pages h r t x = checked_goes logs told pages r (checks_of_read h r t ++ has_snapshot r x ∷ []) _ (λ _. at_once_goes logs told pages r _ (with_snapshot r x) refl (lead_same pages r (with_snapshot r x) refl refl))

pub close_goes : (logs : Logs) (told : Told) (pages : ℕ) (h : Here) (r : Replica) (x : ℕ) → PartGoes logs told pages r (close_part h r x)
unfolding close_part
close_goes logs told pages h r x = checked_goes logs told pages r (is_down h r ∷ is_not_secondary h r ∷ no_snapshot (snapshots_of r x) ∷ []) _ (λ _. at_once_goes logs told pages r _ (without_snapshot r x) refl (lead_same pages r (without_snapshot r x) refl refl))

pub redo_goes : (logs : Logs) (told : Told) (pages : ℕ) (h : Here) (r : Replica) → PartGoes logs told pages r (redo_part h r)
unfolding redo_part
redo_goes logs told pages h r =
    let touched : List ℕ = touched_up_to h.pages (end r) r in
    let due : List ℕ = due_pages h.pages (redone_whole touched r) in
    let then_ : Replica = installed due (redone_whole touched r) in
    checked_goes logs told pages r (checks_of_redo h r) _
    (λ _. small_goes logs told pages r _ (notes_of r touched ++ installs_of r due) then_ refl
    (all_append IsSmall (notes_of r touched) (installs_of r due) (notes_are_small r touched) (installs_are_small r due)) (lead_same pages r then_ refl refl))

pub flush_goes : (s : Setting) (logs : Logs) (told : Told) (pages n : ℕ) (h : Here) (r : Replica) → At s logs n r → PartGoes logs told pages r (flush_part h r)
unfolding flush_part
flush_goes s logs told pages n h r at =
    let ps : List ℕ = pages_to_flush h.pages r in
    let m : Master = flushed_master r in
    let then_ : Replica = record r { pages = each_page (cleaned ps) 16 r.pages } in
    let c : SameCore r.kept r.kept = record { log = refl; master = refl } in
    let new : (x : Kept) → SameCore r.kept x → (written x (Master_write m (end r))).log ≡ r.kept.log = λ x d. mastered r.kept x m (end r) d refl at.kept.ends in
    let whole : (all_written r.kept (flush_writes r ps)).log ≡ r.kept.log =
    flush_all (λ x. x.log ≡ r.kept.log) r.kept r.kept m (end r) (by_eights ps) c new in
    checked_goes logs told pages r (checks_of_flush h r) _
    (λ _. record {
      log = Stands whole;
      lead = lead_core pages r then_ (all_written r.kept (flush_writes r ps)) whole (lead_same pages r then_ refl refl);
      out = tt;
      batches = flush_batches (by_eights ps) (Master_write m (end r) ∷ []) tt;
      writes = λ j. Stands (flush_some (λ x. x.log ≡ r.kept.log) r.kept r.kept m (end r) (by_eights ps) j c (λ x d. sym d.log) new);
    })

pub finish_goes : (s : Setting) (logs : Logs) (told : Told) (pages n : ℕ) (h : Here) (r : Replica) (full : Bool) → At s logs n r → PartGoes logs told pages r (finish_part h r full)
unfolding finish_part
finish_goes s logs told pages n h r full at =
    let touched : List ℕ = touched_up_to h.pages (end r) r in
    checked_goes logs told pages r (checks_of_finish h r full) _
    (λ p. remaster_goes s logs told pages n r _ (notes_of r touched) (finished_master r) _ (finished r touched) at refl (notes_are_small r touched) (Follows p.1.0) (Plain refl, tt))

pub report_goes : (logs : Logs) (told : Told) (pages : ℕ) (h : Here) (r : Replica) (full : Bool) → PartGoes logs told pages r (report_part h r full)
unfolding report_part
report_goes logs told pages h r full = checked_goes logs told pages r (checks_of_report h r full) _ (λ _. quiet_goes logs told pages r _ refl refl (lead_same pages r r refl refl) (Plain refl, tt))

pub suspects_goes : (logs : Logs) (told : Told) (pages : ℕ) (h : Here) (r : Replica) → PartGoes logs told pages r (suspects_part h r)
unfolding suspects_part
suspects_goes logs told pages h r = checked_goes logs told pages r (is_down h r ∷ []) _ (λ _. same_goes logs told pages r _)

pub page_goes : (logs : Logs) (told : Told) (pages : ℕ) (h : Here) (r : Replica) (p : ℕ) → PartGoes logs told pages r (page_part h r p)
unfolding page_part
page_goes logs told pages h r p = checked_goes logs told pages r (is_down h r ∷ reverts r ∷ []) _ (λ _. same_goes logs told pages r _)

pub sectors_goes : (logs : Logs) (told : Told) (pages : ℕ) (r : Replica) (p : ℕ) → PartGoes logs told pages r (sectors_part r p)
unfolding sectors_part
sectors_goes logs told pages r p = same_goes logs told pages r _

pub status_goes : (logs : Logs) (told : Told) (pages : ℕ) (h : Here) (r : Replica) → PartGoes logs told pages r (status_part h r)
unfolding status_part
status_goes logs told pages h r = checked_goes logs told pages r (is_down h r ∷ []) _ (λ _. same_goes logs told pages r _)

-- a page that is damaged from outside
damaged_goes : (logs : Logs) (told : Told) (pages : ℕ) (r : Replica) (p : ℕ) (cells : List Cell) (a : Answer) → PartGoes logs told pages r (at_once a (damaged r p cells))
damaged_goes logs told pages r p cells a = at_once_goes logs told pages r a (damaged r p cells) refl (lead_same pages r (damaged r p cells) refl refl)

pub spoil_goes : (logs : Logs) (told : Told) (pages : ℕ) (r : Replica) (p x : ℕ) → PartGoes logs told pages r (spoil_part r p x)
unfolding spoil_part
spoil_goes logs told pages r p x = checked_goes logs told pages r (checks_of_damage r p) _ (λ _. damaged_goes logs told pages r p _ _)

pub unread_goes : (logs : Logs) (told : Told) (pages : ℕ) (r : Replica) (p : ℕ) → PartGoes logs told pages r (unread_part r p)
unfolding unread_part
unread_goes logs told pages r p = checked_goes logs told pages r (checks_of_damage r p) _ (λ _. damaged_goes logs told pages r p _ _)

pub ask_event_goes : (logs : Logs) (told : Told) (pages m : ℕ) (h : Here) (r : Replica) (p : ℕ) (full : Bool) → PartGoes logs told pages r (ask_part h r p m full)
unfolding ask_part
ask_event_goes logs told pages m h r p full = checked_goes logs told pages r (checks_of_page_ask h r p m full) _ (λ _. quiet_goes logs told pages r _ refl refl (lead_same pages r r refl refl) (Plain refl, tt))

pub cut_event_goes : (logs : Logs) (told : Told) (pages : ℕ) (h : Here) (r : Replica) → PartGoes logs told pages r (cut_part h r)
unfolding cut_part
cut_event_goes logs told pages h r = checked_goes logs told pages r (record { when = r.cut_off; refusal = Nothing } ∷ []) _ (λ _. at_once_goes logs told pages r _ _ refl (lead_same pages r _ refl refl))

pub mend_goes : (logs : Logs) (told_of : Told) (pages : ℕ) (h : Here) (r : Replica) → PartGoes logs told_of pages r (mend_part h r)
unfolding mend_part
mend_goes logs told_of pages h r =
    let back : Replica = record r { cut_off = false } in
    let known : Replica = told h.store.synced back in
    checked_goes logs told_of pages r (record { when = not r.cut_off; refusal = Nothing } ∷ []) _ (λ _.
    if_has (λ (x : Replica). PartGoes logs told_of pages r (at_once Mended x)) r.leads _ back
    (λ _. if_has (λ (x : Replica). PartGoes logs told_of pages r (at_once Mended x)) (h.store.primary == h.number) known (stepped_down back)
    (λ _. at_once_goes logs told_of pages r _ known refl (lead_same pages r known refl refl))
    (λ _. at_once_goes logs told_of pages r _ (stepped_down back) refl (Follows refl)))
    (λ _. at_once_goes logs told_of pages r _ back refl (lead_same pages r back refl refl)))

pub crash_goes : (logs : Logs) (told : Told) (pages : ℕ) (h : Here) (r : Replica) → PartGoes logs told pages r (crash_part h r)
unfolding crash_part
crash_goes logs told pages h r = checked_goes logs told pages r (is_down h r ∷ []) _ (λ _. at_once_goes logs told pages r _ (fallen r r.kept) refl (Follows refl))
