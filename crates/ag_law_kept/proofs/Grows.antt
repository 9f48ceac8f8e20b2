-- Events that write blocks or the master, or send: `harden`, `flush`, `finish`, `report`, `send`, `crash`, and messages with blocks, pages and asks.
use Rattle.std.proofs.Common.{◌≡◌, ℕ, zero, suc, ◌+◌, ◌≤◌, List, [], ◌∷◌, ◌++◌, length, take, Bool, true, false, inl, inr, refl, sym, ap, ◌∙◌, subst, arith, take_all, length-append}
use Rattle.std.specs.Prelude.{Option, Some, None, ◌==◌, ◌||◌, not}
use Rattle.std.specs.List.{AllByRecursion}
use Rattle.std.proofs.lemmas.Bool.{false≢true, not-false, or_parts, eqb-true, eqb-false}
use Rattle.ag_model.specs.declared.record.Record.{Record}
use Rattle.ag_model.specs.declared.record.Log.{Log}
use Rattle.ag_model.specs.declared.answer.Answer.TheVariants.{Installed}
use Rattle.ag_model.specs.declared.answer.Refusal.TheVariants.{Nothing}
use Rattle.ag_model.specs.declared.message.Block.{Block}
use Rattle.ag_model.specs.declared.message.Body.TheVariants.{Ack}
use Rattle.ag_rules.specs.Replica.{Replica, Kept, Master, Peer, records, end, low, peer, no_peer, is_reverting, applied_of, page, with_page, is_bad, is_wanted}
use Rattle.ag_rules.specs.Plan.{Here, Write, Block_write, Master_write, written, all_written, each_synced, writing}
use Rattle.ag_rules.specs.Checks.{is_down, of_other_term, link_is_full}
use Rattle.ag_rules.specs.Messages.{ack_to}
use Rattle.ag_rules.specs.Redo.{notes_of, installs_of, install_of, installed, touched_by, touched_up_to, due_pages}
use Rattle.ag_rules.specs.HardenEvent.{harden_part, checks_of_harden, hardened_one, harden_writes}
use Rattle.ag_rules.specs.FlushEvent.{flush_part, checks_of_flush, by_eights, pages_to_flush, flushed_master, flushes}
use Rattle.ag_rules.specs.FinishEvent.{finish_part, checks_of_finish, finished, finished_master, finish_writes}
use Rattle.ag_rules.specs.ReportEvent.{report_part, checks_of_report}
use Rattle.ag_rules.specs.SendEvent.{send_part, checks_of_send, sends, with_sent, block_to_send}
use Rattle.ag_rules.specs.CrashEvent.{crash_part}
use Rattle.ag_rules.specs.ResumeMessage.{waits_for}
use Rattle.ag_rules.specs.BlockMessage.{block_part, cases_of_block, acks}
use Rattle.ag_rules.specs.PageAskMessage.{page_ask_part}
use Rattle.ag_rules.specs.PageGiveMessage.{page_give_part, comes, with_come, is_last, initialising}
use Rattle.ag_rules.specs.DeliverEvent.{no_page_part}
use Rattle.ag_lists.proofs.Tests.{if_has}
use Rattle.ag_lists.proofs.Places.{at_set}
use Rattle.ag_lists.proofs.Each.{all_append}
use Rattle.ag_laws.specs.Prefix.{IsPrefixOf}
use Rattle.ag_laws.proofs.Prefix.{prefix_refl}
use Rattle.ag_laws.proofs.Plans.{case_has, question_has, arrival_has}
use Rattle.ag_laws.proofs.Disks.{SameCore, core_refl, small_all, small_some, each_batches, notes_are_small, install_is_small, installs_are_small}
use Rattle.ag_laws.proofs.Blocks.{small_then, small_then_all}
use Rattle.ag_laws.proofs.Steps.{IsSmall}
use Rattle.ag_laws.proofs.Flushed.{flush_batches, flush_some, flush_all}
use Rattle.ag_law_kept.specs.Holds.{IsSaved}
use Rattle.ag_law_kept.proofs.Goes.{DiskGoes, disk_core, ReplicaGoes, Fit, fallen_goes, IsAckOf, IsOut}
use Rattle.ag_law_kept.proofs.Calm.{PartCalm, disk_refl, still, leads_still, quiet_calm, same_calm, checked_calm, goes_core, small_calm, still_calm}

-- a disk with the same master, whose log goes on
pub log_goes : (pages : ℕ) (old k : Kept) → IsSaved pages old.master → IsPrefixOf old.log.records k.log.records → k.master ≡ old.master → DiskGoes pages old k
log_goes pages old k s p m = record {
  prefix = p;
  term = omega (arith, ap (λ (x : Master). x.term) m);
  saved = subst (λ (x : Master). IsSaved pages x) (sym m) s;
  normal = λ e. ap (λ (x : Master). is_reverting x.state) m ∙ e;
}

-- a master that cuts nothing
pub master_goes : (pages : ℕ) (k k2 : Kept) (m : Master) (log_end : ℕ) → SameCore k k2 → log_end ≡ length k.log.records → k.master.term ≤ m.term → IsSaved pages m → (is_reverting k.master.state ≡ false → is_reverting m.state ≡ false) → DiskGoes pages k (written k2 (Master_write m log_end))
master_goes pages k k2 m log_end c whole term s normal =
    let all : take log_end k2.log.records ≡ k.log.records = ap (λ (l : Log). take log_end l.records) (sym c.log) ∙ take_all log_end k.log.records (omega (arith, whole)) in
    record { prefix = subst (λ (l : List Record). IsPrefixOf k.log.records l) (sym all) (prefix_refl k.log.records); term = term; saved = s; normal = normal }

-- small writes, and then such a master
pub remaster_goes : (pages : ℕ) (r : Replica) (ws : List Write) (m : Master) (j : ℕ) → IsSaved pages r.kept.master → AllByRecursion IsSmall ws → r.kept.master.term ≤ m.term → IsSaved pages m → (is_reverting r.kept.master.state ≡ false → is_reverting m.state ≡ false) → DiskGoes pages r.kept (all_written r.kept (take j (each_synced (ws ++ Master_write m (end r) ∷ []))))
remaster_goes pages r ws m j s small term sm normal = small_then (DiskGoes pages r.kept) r.kept ws (Master_write m (end r) ∷ []) j small some
  where
    some : (k2 : Kept) → SameCore r.kept k2 → (i : ℕ) → DiskGoes pages r.kept (all_written k2 (take i (each_synced (Master_write m (end r) ∷ []))))
    some k2 c zero = disk_core pages r.kept r.kept k2 c (disk_refl pages r.kept s)
    some k2 c (suc zero) = master_goes pages r.kept k2 m (end r) c refl term sm normal
    some k2 c (suc (suc i)) = master_goes pages r.kept k2 m (end r) c refl term sm normal

pub remaster_all : (pages : ℕ) (r : Replica) (ws : List Write) (m : Master) → AllByRecursion IsSmall ws → r.kept.master.term ≤ m.term → IsSaved pages m → (is_reverting r.kept.master.state ≡ false → is_reverting m.state ≡ false)
    → (let k = all_written r.kept (each_synced (ws ++ Master_write m (end r) ∷ [])) in DiskGoes pages r.kept k × (k.master ≡ m) × (k.log.records ≡ records r))
remaster_all pages r ws m small term sm normal =
    small_then_all (λ (k : Kept). DiskGoes pages r.kept k × (k.master ≡ m) × (k.log.records ≡ records r)) r.kept ws (Master_write m (end r) ∷ []) small
    (λ k2 c. (master_goes pages r.kept k2 m (end r) c refl term sm normal, refl, ap (λ (l : Log). take (end r) l.records) (sym c.log) ∙ take_all (end r) (records r) (omega arith)))

pub crash_calm : (h : Here) (r : Replica) → Fit h.pages r → PartCalm h.pages r (crash_part h r)
unfolding crash_part
crash_calm h r f = checked_calm h.pages r (is_down h r ∷ []) _ f (λ _. quiet_calm h.pages r _ f refl (fallen_goes h.pages r r.kept f (disk_refl h.pages r.kept f.disk)) (λ e. absurd (false≢true e)) (inl tt))

-- a block, and small writes
block_some : (pages : ℕ) (r : Replica) (new : List Record) (more : List Write) (j : ℕ) → IsSaved pages r.kept.master → AllByRecursion IsSmall more → DiskGoes pages r.kept (all_written r.kept (take j (each_synced (Block_write new ∷ more))))
block_some pages r new more zero s small = disk_refl pages r.kept s
block_some pages r new more (suc j) s small = disk_core pages r.kept (written r.kept (Block_write new)) _ (small_some (written r.kept (Block_write new)) more j small) (log_goes pages r.kept (written r.kept (Block_write new)) s (new, refl) refl)

pub harden_calm : (h : Here) (r : Replica) → Fit h.pages r → (r.leads ≡ true → r.following.ticket ≡ None) → PartCalm h.pages r (harden_part h r)
unfolding harden_part
harden_calm h r f free =
    let buffer : List Record = r.leading.buffer in
    let due : List ℕ = due_pages h.pages (hardened_one h.pages r) in
    let more : List Write = notes_of r (touched_by h.pages buffer) ++ installs_of r due in
    let k : Kept = written r.kept (Block_write buffer) in
    let r2 : Replica = installed due (hardened_one h.pages r) in
    let small : AllByRecursion IsSmall more = all_append IsSmall (notes_of r (touched_by h.pages buffer)) (installs_of r due) (notes_are_small r (touched_by h.pages buffer)) (installs_are_small r due) in
    checked_calm h.pages r (checks_of_harden h r) _ f
    (λ p. record {
      goes = record {
        batches = each_batches (harden_writes h.pages r due);
        writes = λ j. block_some h.pages r buffer more j f.disk small;
        after = goes_core h.pages r r2 k (all_written r.kept (each_synced (harden_writes h.pages r due))) (small_all k more small)
            (record {
              disk = log_goes h.pages r.kept k f.disk (buffer, refl) refl;
              low = f.low;
              saved = f.saved;
              normal = λ e. e;
              waits = λ t w. w;
              follows = f.follows;
              whole = λ e t w. absurd (false≢true (sym (ap (λ (o : Option _). waits_for o t) (free (not-false _ p.1.0))) ∙ w));
            });
        out = inl tt;
      };
      leads = λ e. record { leads = e; term = refl; cut = λ c. c; synced = refl; known = λ m. refl; free = λ q. q; normal = λ q. q };
    })

pub flush_calm : (h : Here) (r : Replica) → Fit h.pages r → PartCalm h.pages r (flush_part h r)
unfolding flush_part
flush_calm h r f =
    let ps : List ℕ = pages_to_flush h.pages r in
    let m : Master = flushed_master r in
    let s : IsSaved h.pages m = record { none = f.disk.none; some = f.disk.some } in
    let new : (x : Kept) → SameCore r.kept x → DiskGoes h.pages r.kept (written x (Master_write m (end r))) = λ x c. master_goes h.pages r.kept x m (end r) c refl (omega arith) s (λ e. e) in
    checked_calm h.pages r (checks_of_flush h r) _ f
    (λ _. record {
      goes = record {
        batches = flush_batches (by_eights ps) (Master_write m (end r) ∷ []) tt;
        writes = λ j. flush_some (DiskGoes h.pages r.kept) r.kept r.kept m (end r) (by_eights ps) j (core_refl r.kept r.kept refl refl) (λ x c. disk_core h.pages r.kept r.kept x c (disk_refl h.pages r.kept f.disk)) new;
        after = flush_all (λ k. ReplicaGoes h.pages r (record (flushes r ps).after { kept = k })) r.kept r.kept m (end r) (by_eights ps) (core_refl r.kept r.kept refl refl)
            (λ x c. record {
              disk = new x c;
              low = f.low;
              saved = f.saved;
              normal = λ e. e;
              waits = λ t w. w;
              follows = f.follows;
              whole = λ e t w. (e, ap (λ (l : Log). take (end r) l.records) (sym c.log) ∙ take_all (end r) (records r) (omega arith));
            });
        out = inl tt;
      };
      leads = λ e. record { leads = e; term = refl; cut = λ c. c; synced = refl; known = λ k. refl; free = λ q. q; normal = λ q. q };
    })

-- an Ack of a log that ends there
ack_of : (r r2 : Replica) (hardened its_low : ℕ) → r2.term ≡ r.term → end r2 ≡ hardened → IsAckOf r2 (record { to = 0; message = record { term = r.term; body = Ack hardened its_low } })
ack_of r r2 hardened its_low term is = (its_low, ap (λ t. record { term = t; body = Ack hardened its_low }) (sym term) ∙ ap (λ e. record { term = r2.term; body = Ack e its_low }) (sym is))

pub finish_calm : (h : Here) (r : Replica) (full : Bool) → Fit h.pages r → PartCalm h.pages r (finish_part h r full)
unfolding finish_part
finish_calm h r full f =
    let touched : List ℕ = touched_up_to h.pages (end r) r in
    let notes : List Write = notes_of r touched in
    let m : Master = finished_master r in
    let small : AllByRecursion IsSmall notes = notes_are_small r touched in
    let s : IsSaved h.pages m = record { none = λ e. (refl, refl); some = λ e. absurd (false≢true e) } in
    checked_calm h.pages r (checks_of_finish h r full) _ f
    (λ p.
    let all : (let k = all_written r.kept (each_synced (notes ++ Master_write m (end r) ∷ [])) in DiskGoes h.pages r.kept k × (k.master ≡ m) × (k.log.records ≡ records r)) = remaster_all h.pages r notes m small (omega arith) s (λ e. refl) in
    record {
      goes = record {
        batches = each_batches (finish_writes r touched);
        writes = λ j. remaster_goes h.pages r notes m j f.disk small (omega arith) s (λ e. refl);
        after = record {
          disk = all.0;
          low = λ e. omega arith;
          saved = ap (λ (x : Master). is_reverting x.state) all.1;
          normal = λ e. refl;
          waits = λ t w. absurd (false≢true w);
          follows = λ e. refl;
          whole = λ e t w. absurd (false≢true w);
        };
        out = inr ((((ack_of r (record (finished r touched) { kept = all_written r.kept (each_synced (notes ++ Master_write m (end r) ∷ [])) }) (end r) (low (finished r touched)) refl (ap length all.2)).0, (ack_of r (record (finished r touched) { kept = all_written r.kept (each_synced (notes ++ Master_write m (end r) ∷ [])) }) (end r) (low (finished r touched)) refl (ap length all.2)).1), tt), refl);
      };
      leads = λ e. absurd (false≢true (sym p.1.0 ∙ e));
    })

pub report_calm : (h : Here) (r : Replica) (full : Bool) → Fit h.pages r → PartCalm h.pages r (report_part h r full)
unfolding report_part
report_calm h r full f =
    checked_calm h.pages r (checks_of_report h r full) _ f
    (λ p. quiet_calm h.pages r _ f refl (still h.pages r r f refl refl refl) (leads_still r r refl refl refl refl refl refl refl) (inr (((low r, refl), tt), f.follows (eqb-true r.state 1 (not-false _ p.1.1.0)))))

sends_calm : (pages : ℕ) (r : Replica) (m : ℕ) (o : Option ℕ) → Fit pages r → PartCalm pages r (sends r m o)
sends_calm pages r m None f = same_calm pages r _ f
sends_calm pages r m (Some last) f =
    quiet_calm pages r _ f refl (still pages r (with_sent r m last) f refl refl refl)
    (λ e. record { leads = e; term = refl; cut = λ c. c; synced = refl; known = at_set (λ k (x : Peer). x.hardened ≡ (peer r k).hardened) r.leading.peers no_peer m (record (peer r m) { next = last + 1 }) (λ k. refl) refl; free = λ q. q; normal = λ q. q }) (inl (tt, tt))

pub send_calm : (h : Here) (r : Replica) (m : ℕ) (full : Bool) → Fit h.pages r → PartCalm h.pages r (send_part h r m full)
unfolding send_part
send_calm h r m full f = checked_calm h.pages r (checks_of_send h r m full) _ f (λ _. sends_calm h.pages r m (block_to_send r m) f)

-- the Acks of a replica in state 1
acks_out : (pages n : ℕ) (r r2 : Replica) (hardened : ℕ) → Fit pages r → r2.term ≡ r.term → end r2 ≡ hardened → r2.following.ticket ≡ r.following.ticket → IsOut r2 (acks n r hardened)
acks_out pages n r r2 hardened f term is ticket =
    if_has (IsOut r2) (r.state == 1) (ack_to n r hardened) []
    (λ e. inr ((((ack_of r r2 hardened (low r) term is).0, (ack_of r r2 hardened (low r) term is).1), tt), ticket ∙ f.follows (eqb-true r.state 1 e)))
    (λ _. inl tt)

pub block_calm : (h : Here) (n : ℕ) (r : Replica) (full : Bool) (term : ℕ) (b : Block) → Fit h.pages r → PartCalm h.pages r (block_part h n r full term b)
unfolding block_part
block_calm h n r full term b f =
    case_has (PartCalm h.pages r) (cases_of_block h n r full term b) _ (
      (λ _. same_calm h.pages r _ f),
      (
        (λ _. same_calm h.pages r _ f),
        (
          (λ _. same_calm h.pages r _ f),
          (
            (λ _. quiet_calm h.pages r _ f refl (still h.pages r r f refl refl refl) (leads_still r r refl refl refl refl refl refl refl) (acks_out h.pages n r r (end r) f refl refl refl)),
            ((λ _. same_calm h.pages r _ f), tt),
          ),
        ),
      ),
    )
    (λ p.
    let k : Kept = written r.kept (Block_write b.records) in
    let one : (r.leads ≡ false) × ((not (term == r.term) || ((r.state == 0) || (r.state == 3))) ≡ false) = or_parts _ _ p.0 in
    let two : (not (term == r.term) ≡ false) × (((r.state == 0) || (r.state == 3)) ≡ false) = or_parts _ _ one.1 in
    let three : ((r.state == 0) ≡ false) × ((r.state == 3) ≡ false) = or_parts _ _ two.1 in
    record {
      goes = record {
        batches = (tt, tt);
        writes = λ j. block_some h.pages r b.records [] j f.disk tt;
        after = record {
          disk = log_goes h.pages r.kept k f.disk (b.records, refl) refl;
          low = f.low;
          saved = f.saved;
          normal = λ e. e;
          waits = λ t w. w;
          follows = f.follows;
          whole = λ e t w. absurd (eqb-false r.state 0 three.0 e);
        };
        out = acks_out h.pages n r (record r { kept = k }) (end r + length b.records) f refl (length-append (records r) b.records) refl;
      };
      leads = λ e. absurd (false≢true (sym one.0 ∙ e));
    })

pub page_ask_calm : (h : Here) (n : ℕ) (r : Replica) (full : Bool) (term p lsn : ℕ) (primary : Bool) → Fit h.pages r → PartCalm h.pages r (page_ask_part h n r full term p lsn primary)
unfolding page_ask_part
page_ask_calm h n r full term p lsn primary f =
    checked_calm h.pages r (of_other_term r term ∷ []) _ f
    (λ _. question_has (PartCalm h.pages r) _ _ _ _ (is_bad r p) r.state (not r.leads) primary (applied_of r p) lsn
    (same_calm h.pages r _ f)
    (checked_calm h.pages r (link_is_full h.number n full ∷ []) _ f (λ _. quiet_calm h.pages r _ f refl (still h.pages r r f refl refl refl) (leads_still r r refl refl refl refl refl refl refl) (inl (tt, tt))))
    (same_calm h.pages r _ f)
    (checked_calm h.pages r (link_is_full h.number n full ∷ []) _ f (λ _. quiet_calm h.pages r _ f refl (still h.pages r r f refl refl refl) (leads_still r r refl refl refl refl refl refl refl) (inl (tt, tt)))))

-- states 3 and 4 revert
reverts_so : (s : ℕ) → (s == 3) ≡ true → is_reverting s ≡ true
reverts_so s e = ap (λ b. b || (s == 4)) e

-- the state after a page came
come_state : (P : ℕ → Type 0) (r : Replica) (p lsn : ℕ) → P 4 → P 3 → P (with_come r p lsn).state
come_state P r p lsn four three = if_has P (is_last r p) 4 3 (λ _. four) (λ _. three)

comes_calm : (pages : ℕ) (r : Replica) (p lsn : ℕ) → Fit pages r → (r.state == 3) ≡ true → PartCalm pages r (comes r p lsn)
comes_calm pages r p lsn f three =
    let held : is_reverting r.kept.master.state ≡ true = f.saved ∙ reverts_so r.state three in
    let m : Master = initialising r lsn in
    let s : IsSaved pages m = record { none = λ e. absurd (false≢true (sym e)); some = λ e. f.disk.some held } in
    let small : AllByRecursion IsSmall (install_of r p) = install_is_small r p in
    let not_normal : is_reverting r.kept.master.state ≡ false → ⊥ = λ e. false≢true (sym e ∙ held) in
    let calls : (ws : List Write) → ((j : ℕ) → DiskGoes pages r.kept (all_written r.kept (take j (each_synced (install_of r p ++ ws))))) → (let k = all_written r.kept (each_synced (install_of r p ++ ws)) in DiskGoes pages r.kept k × (is_reverting k.master.state ≡ true)) → PartCalm pages r (writing (Installed p lsn) (each_synced (install_of r p ++ ws)) [] (with_come r p lsn)) =
    λ ws some all. record {
      goes = record {
        batches = each_batches (install_of r p ++ ws);
        writes = some;
        after = record {
          disk = all.0;
          low = come_state (λ x. is_reverting x ≡ false → x ≤ 1) r p lsn (λ e. absurd (false≢true (sym e))) (λ e. absurd (false≢true (sym e)));
          saved = all.1 ∙ come_state (λ x. true ≡ is_reverting x) r p lsn refl refl;
          normal = λ e. absurd (false≢true (sym e ∙ reverts_so r.state three));
          waits = λ t w. w;
          follows = come_state (λ x. x ≡ 1 → r.following.ticket ≡ None) r p lsn (λ e. absurd (omega (arith, e))) (λ e. absurd (omega (arith, e)));
          whole = come_state (λ x. x ≡ 0 → (t : _) → waits_for r.following.ticket t ≡ true → (r.state ≡ 0) × (records (record (with_come r p lsn) { kept = all_written r.kept (each_synced (install_of r p ++ ws)) }) ≡ records r)) r p lsn (λ e. absurd (omega (arith, e))) (λ e. absurd (omega (arith, e)));
        };
        out = inl tt;
      };
      leads = λ e. record { leads = e; term = refl; cut = λ c. c; synced = refl; known = λ k. refl; free = λ q. q; normal = λ q. absurd (false≢true (sym q ∙ reverts_so r.state three)) };
    } in
    if_has (λ (ws : List Write). PartCalm pages r (writing (Installed p lsn) (each_synced (install_of r p ++ ws)) [] (with_come r p lsn))) (is_last r p) (Master_write m (end r) ∷ []) []
    (λ _. calls (Master_write m (end r) ∷ []) (λ j. remaster_goes pages r (install_of r p) m j f.disk small (omega arith) s (λ e. absurd (not_normal e)))
    (let all : (let k = all_written r.kept (each_synced (install_of r p ++ Master_write m (end r) ∷ [])) in DiskGoes pages r.kept k × (k.master ≡ m) × (k.log.records ≡ records r)) = remaster_all pages r (install_of r p) m small (omega arith) s (λ e. absurd (not_normal e)) in
    (all.0, ap (λ (x : Master). is_reverting x.state) all.1)))
    (λ _.
    let small2 : AllByRecursion IsSmall (install_of r p ++ []) = all_append IsSmall (install_of r p) [] small tt in
    let c : SameCore r.kept (all_written r.kept (each_synced (install_of r p ++ []))) = small_all r.kept (install_of r p ++ []) small2 in
    calls [] (λ j. disk_core pages r.kept r.kept _ (small_some r.kept (install_of r p ++ []) j small2) (disk_refl pages r.kept f.disk))
    (disk_core pages r.kept r.kept _ c (disk_refl pages r.kept f.disk), ap (λ (x : Master). is_reverting x.state) (sym c.master) ∙ held))

pub give_calm : (pages : ℕ) (r : Replica) (term p lsn : ℕ) → Fit pages r → PartCalm pages r (page_give_part r term p lsn)
unfolding page_give_part
give_calm pages r term p lsn f =
    let held : Replica = with_page r p (record (page r p) { held = Some lsn }) in
    checked_calm pages r (of_other_term r term ∷ []) _ f
    (λ _. arrival_has (PartCalm pages r) _ _ _ _ (is_wanted r p) r.state (applied_of r p) lsn
    (same_calm pages r _ f)
    (λ three. comes_calm pages r p lsn f three)
    (small_calm pages r _ (install_of r p) (installed (p ∷ []) r) f (install_is_small r p) refl refl refl refl refl refl refl refl)
    (still_calm pages r _ held f refl refl refl refl refl refl refl refl))

pub no_page_calm : (pages : ℕ) (r : Replica) (term p : ℕ) → Fit pages r → PartCalm pages r (no_page_part r term p)
no_page_calm pages r term p f = checked_calm pages r (record { when = not (term == r.term); refusal = Nothing } ∷ []) _ f (λ _. same_calm pages r _ f)
