-- What `harden` makes of a primary's log, and what a promotion makes of it: in a failover, and in a start.
use Rattle.std.proofs.Common.{◌≡◌, ◌≢◌, ℕ, zero, suc, ◌<◌, ◌≤◌, List, [], ◌∷◌, ◌++◌, length, map, take, inl, inr, true, false, refl, sym, ap, ◌∙◌, subst, arith, append_assoc}
use Rattle.std.specs.Prelude.{◌==◌, ◌⊎◌, nat_lt}
use Rattle.std.specs.List.{AllByRecursion}
use Rattle.std.proofs.lemmas.Bool.{false≢true, not-false, ltb-true, ltb-false, eqb-false}
use Rattle.std.proofs.lemmas.List.{append-nil}
use Rattle.ag_model.specs.declared.record.Record.{Record}
use Rattle.ag_model.specs.declared.record.Log.{Log}
use Rattle.ag_model.specs.Blocks.{with_block}
use Rattle.ag_model.specs.Starts.{last_term}
use Rattle.ag_rules.specs.Replica.{Replica, Kept, records, end, term_of_disk, is_reverting}
use Rattle.ag_rules.specs.Plan.{Here, Write, Block_write, Master_write, written, all_written, each_synced}
use Rattle.ag_rules.specs.Redo.{touched_by, notes_of, installs_of, installed, touched_up_to}
use Rattle.ag_rules.specs.HardenEvent.{harden_part, checks_of_harden, hardens, hardened_one, harden_writes}
use Rattle.ag_rules.specs.Promotion.{promotion_records, promotion_touches, promotion_writes, blocks_of, leads_now}
use Rattle.ag_rules.specs.Failover.{takes_over, target}
use Rattle.ag_rules.specs.StartEvent.{start_part, start_records, checks_of_start, starts_reverting, starts_second, starts_first, start_writes, started_master, woken, is_named}
use Rattle.ag_rules.specs.Redo.{due_pages}
use Rattle.ag_lists.proofs.Tests.{by_bool, if_has}
use Rattle.ag_lists.proofs.Each.{all_append}
use Rattle.ag_laws.specs.Logs.{Setting, Logs}
use Rattle.ag_laws.specs.At.{At}
use Rattle.ag_laws.proofs.Blocks.{flat, blocks_whole, small_then, small_then_all}
use Rattle.ag_laws.proofs.Disks.{SameCore, small_some, small_all, each_batches, notes_are_small, installs_are_small}
use Rattle.ag_laws.proofs.Steps.{IsSmall}
use Rattle.ag_law_proper.specs.Growth.{Lead, Told, LogGoes, Stands, Hardens as LogHardens, Promotes, LogFits, with_blocks, Follows, Leads, Takes, Hardens}
use Rattle.ag_law_proper.proofs.Parts.{PartGoes, checked_goes, cut_whole}

-- what a primary leads with, by its log
abbrev lead_with : Replica → List Record → Lead
lead_with after l = record { log = l; buffer = after.leading.buffer; open_txns = after.leading.open_txns; last_txn = after.leading.last_txn }

pub harden_goes : (logs : Logs) (told : Told) (pages : ℕ) (h : Here) (r : Replica) → PartGoes logs told pages r (harden_part h r)
unfolding harden_part
harden_goes logs told pages h r =
    checked_goes logs told pages r (checks_of_harden h r) _
    (λ p. goes (due_pages h.pages (hardened_one h.pages r)) (not-false _ p.1.0) (some_of p.1.1.0) (ltb-false _ _ p.1.1.1.0))
  where
    buffer : List Record
    buffer = r.leading.buffer

    some_of : (length r.leading.buffer == 0) ≡ false → 0 < length r.leading.buffer
    some_of e = let q : length r.leading.buffer ≢ 0 = eqb-false (length r.leading.buffer) 0 e in omega (arith, q)

    goes : (due : List ℕ) → r.leads ≡ true → 0 < length r.leading.buffer → LogFits r.kept.log (r.leading.buffer ∷ []) → PartGoes logs told pages r (hardens h.pages r due)
    goes due leads some fits =
        let k : Kept = written r.kept (Block_write r.leading.buffer) in
        let more : List Write = notes_of r (touched_by h.pages r.leading.buffer) ++ installs_of r due in
        let after : Replica = record (installed due (hardened_one h.pages r)) { kept = all_written r.kept (each_synced (harden_writes h.pages r due)) } in
        let small : AllByRecursion IsSmall more = all_append IsSmall (notes_of r (touched_by h.pages r.leading.buffer)) (installs_of r due) (notes_are_small r (touched_by h.pages r.leading.buffer)) (installs_are_small r due) in
        let c : SameCore k (all_written k (each_synced more)) = small_all k more small in
        record {
          log = LogHardens leads some fits (sym c.log);
          lead = Leads leads (Hardens (ap (λ (x : Log). lead_with after (x.records ++ [])) (sym c.log) ∙ ap (lead_with after) (append-nil (records r ++ r.leading.buffer))));
          out = tt;
          batches = each_batches (harden_writes h.pages r due);
          writes = steps more small;
        }
      where
        steps : (more : List Write) → AllByRecursion IsSmall more → (j : ℕ) → LogGoes logs told pages r (all_written r.kept (take j (each_synced (Block_write r.leading.buffer ∷ more)))).log
        steps more small zero = Stands refl
        steps more small (suc j) = LogHardens leads some fits (sym (small_some (written r.kept (Block_write r.leading.buffer)) more j small).log)

-- a log with some of these blocks
record SomeBlocks (l new : Log) (bs : List (List Record)) : Type 0 where
  some : List (List Record)
  rest : List (List Record)
  is : some ++ rest ≡ bs
  log : new ≡ with_blocks l some

blocks_some : (k : Kept) (bs : List (List Record)) (j : ℕ) → SomeBlocks k.log (all_written k (take j (each_synced (map Block_write bs)))).log bs
blocks_some k [] zero = record { some = []; rest = []; is = refl; log = refl }
blocks_some k [] (suc j) = record { some = []; rest = []; is = refl; log = refl }
blocks_some k (b ∷ bs) zero = record { some = []; rest = b ∷ bs; is = refl; log = refl }
blocks_some k (b ∷ bs) (suc j) =
    let s : SomeBlocks (with_block k.log b) (all_written (written k (Block_write b)) (take j (each_synced (map Block_write bs)))).log bs = blocks_some (written k (Block_write b)) bs j in
    record { some = b ∷ s.some; rest = s.rest; is = ap (λ l. b ∷ l) s.is; log = s.log }

blocks_all : (k : Kept) (bs : List (List Record)) → (all_written k (each_synced (map Block_write bs))).log ≡ with_blocks k.log bs
blocks_all k [] = refl
blocks_all k (b ∷ bs) = blocks_all (written k (Block_write b)) bs

pub records_of_blocks : (l : Log) (bs : List (List Record)) → (with_blocks l bs).records ≡ l.records ++ flat bs
records_of_blocks l [] = sym (append-nil l.records)
records_of_blocks l (b ∷ bs) = records_of_blocks (with_block l b) bs ∙ append_assoc l.records b (flat bs)

-- some of the writes of a promotion, where the log stands so
some_promoted : (l : Log) (k : Kept) (notes : List Write) (bs : List (List Record)) (j : ℕ) → k.log ≡ l → AllByRecursion IsSmall notes → SomeBlocks l (all_written k (take j (each_synced (notes ++ map Block_write bs)))).log bs
some_promoted l k notes bs j same small =
    small_then (λ (x : Kept). SomeBlocks l x.log bs) k notes (map Block_write bs) j small
    (λ k2 c i. subst (λ (y : Log). SomeBlocks y (all_written k2 (take i (each_synced (map Block_write bs)))).log bs) (sym c.log ∙ same) (blocks_some k2 bs i))

all_promoted : (l : Log) (k : Kept) (notes : List Write) (bs : List (List Record)) → k.log ≡ l → AllByRecursion IsSmall notes → (all_written k (each_synced (notes ++ map Block_write bs))).log ≡ with_blocks l bs
all_promoted l k notes bs same small =
    small_then_all (λ (x : Kept). x.log ≡ with_blocks l bs) k notes (map Block_write bs) small
    (λ k2 c. blocks_all k2 bs ∙ ap (λ y. with_blocks y bs) (sym c.log ∙ same))

-- what the replica of a promotion needs
pub record MayLead (logs : Logs) (r : Replica) (term : ℕ) : Type 0 where
  pub low : last_term (records r) ≤ term
  pub whole : (logs term ≡ []) ⊎ (logs term ≡ records r)

pub may_lead : (s : Setting) (logs : Logs) (n : ℕ) (r : Replica) → At s logs n r → s.leader s.now ≡ n → MayLead logs r s.now
may_lead s logs n r a mine = record {
  low = omega (arith, a.kept.past);
  whole = by_bool (nat_lt (term_of_disk r.kept) s.now) (λ v. nat_lt (term_of_disk r.kept) s.now ≡ v → (logs s.now ≡ []) ⊎ (logs s.now ≡ records r))
      (λ _ y. inl (a.kept.ahead s.now mine (ltb-true (term_of_disk r.kept) s.now y)))
      (λ _ f. let same : term_of_disk r.kept ≡ s.now = omega (arith, ltb-false (term_of_disk r.kept) s.now f, a.kept.past) in inr (ap logs (sym same) ∙ sym (a.kept.own (ap s.leader same ∙ mine)).whole))
      refl;
}

some_goes : (logs : Logs) (told : Told) (pages term : ℕ) (r : Replica) (new : List Record) (l : Log) → MayLead logs r term → LogFits r.kept.log (blocks_of new) → new ≡ promotion_records pages term (records r) → SomeBlocks r.kept.log l (blocks_of new) → LogGoes logs told pages r l
some_goes logs told pages term r new l may fits e s = Promotes term s.some s.rest may.low may.whole (subst (LogFits r.kept.log) (sym s.is) fits) (s.is ∙ ap blocks_of e) s.log

promoted_lead_is : (pages term : ℕ) (r : Replica) (new : List Record) (l : Log) → new ≡ promotion_records pages term (records r) → l ≡ with_blocks r.kept.log (blocks_of new) → l.records ++ [] ≡ records r ++ promotion_records pages term (records r)
promoted_lead_is pages term r new l e is = append-nil l.records ∙ ap (λ (x : Log). x.records) is ∙ records_of_blocks r.kept.log (blocks_of new) ∙ ap (λ x. records r ++ x) (blocks_whole new ∙ e)

-- the target of a failover, where the store is already moved
pub takes_over_goes : (logs : Logs) (told : Told) (h : Here) (new : List Record) (r : Replica) → MayLead logs r h.store.term → LogFits r.kept.log (blocks_of new) → new ≡ promotion_records h.pages h.store.term (records r) → PartGoes logs told h.pages r (takes_over h new (target r))
takes_over_goes logs told h new r may fits e =
    let notes : List Write = notes_of (target r) (promotion_touches h.pages new (target r)) in
    let ws : List Write = promotion_writes h.pages new (target r) in
    let small : AllByRecursion IsSmall notes = notes_are_small (target r) (promotion_touches h.pages new (target r)) in
    let k : Kept = all_written r.kept (each_synced ws) in
    let after : Replica = record (leads_now h new (target r)) { kept = k } in
    let is : k.log ≡ with_blocks r.kept.log (blocks_of new) = all_promoted r.kept.log r.kept notes (blocks_of new) refl small in
    record {
      log = Promotes h.store.term (blocks_of new) [] may.low may.whole (subst (LogFits r.kept.log) (sym (append-nil (blocks_of new))) fits) (append-nil (blocks_of new) ∙ ap blocks_of e) is;
      lead = Takes h.store.term may.low (ap (lead_with after) (promoted_lead_is h.pages h.store.term r new k.log e is));
      out = tt;
      batches = each_batches ws;
      writes = λ j. some_goes logs told h.pages h.store.term r new _ may fits e (some_promoted r.kept.log r.kept notes (blocks_of new) j refl small);
    }

-- the log once a start wrote its master
restarted : (s : Setting) (logs : Logs) (n : ℕ) (r : Replica) → At s logs n r → (written r.kept (Master_write (started_master r) (end r))).log ≡ r.kept.log
restarted s logs n r a = cut_whole r.kept.log (end r) refl a.kept.ends

start_steps : (logs : Logs) (told : Told) (pages : ℕ) (r : Replica) (more : List Write) → ((j : ℕ) → LogGoes logs told pages r (all_written (written r.kept (Master_write (started_master r) (end r))) (take j (each_synced more))).log) → (j : ℕ) → LogGoes logs told pages r (all_written r.kept (take j (start_writes r more))).log
start_steps logs told pages r more f zero = Stands refl
start_steps logs told pages r more f (suc zero) = Stands refl
start_steps logs told pages r more f (suc (suc j)) = f j

-- a start that writes no block
quiet_start : (s : Setting) (logs : Logs) (told : Told) (pages n : ℕ) (r : Replica) (notes : List Write) → At s logs n r → AllByRecursion IsSmall notes → (j : ℕ) → LogGoes logs told pages r (all_written r.kept (take j (start_writes r notes))).log
quiet_start s logs told pages n r notes a small = start_steps logs told pages r notes (λ j. Stands (sym (small_some (written r.kept (Master_write (started_master r) (end r))) notes j small).log ∙ restarted s logs n r a))

first_goes : (s : Setting) (logs : Logs) (told : Told) (n : ℕ) (h : Here) (new : List Record) (r : Replica) → At s logs n r → MayLead logs r h.store.term → LogFits r.kept.log (blocks_of new) → new ≡ promotion_records h.pages h.store.term (records r) → PartGoes logs told h.pages r (starts_first h r new)
first_goes s logs told n h new r a may fits e =
    let notes : List Write = notes_of r (promotion_touches h.pages new r) in
    let more : List Write = promotion_writes h.pages new r in
    let small : AllByRecursion IsSmall notes = notes_are_small r (promotion_touches h.pages new r) in
    let k : Kept = written r.kept (Master_write (started_master r) (end r)) in
    let k2 : Kept = all_written k (each_synced more) in
    let after : Replica = record (leads_now h new (woken r)) { kept = k2 } in
    let is : k2.log ≡ with_blocks r.kept.log (blocks_of new) = all_promoted r.kept.log k notes (blocks_of new) (restarted s logs n r a) small in
    record {
      log = Promotes h.store.term (blocks_of new) [] may.low may.whole (subst (LogFits r.kept.log) (sym (append-nil (blocks_of new))) fits) (append-nil (blocks_of new) ∙ ap blocks_of e) is;
      lead = Takes h.store.term may.low (ap (lead_with after) (promoted_lead_is h.pages h.store.term r new k2.log e is));
      out = tt;
      batches = (tt, (tt, each_batches more));
      writes = start_steps logs told h.pages r more (λ j. some_goes logs told h.pages h.store.term r new _ may fits e (some_promoted r.kept.log k notes (blocks_of new) j (restarted s logs n r a) small));
    }

second_goes : (s : Setting) (logs : Logs) (told : Told) (pages n : ℕ) (r : Replica) (touched : List ℕ) → At s logs n r → r.leads ≡ false → PartGoes logs told pages r (starts_second r touched)
second_goes s logs told pages n r touched a follows =
    let notes : List Write = notes_of r touched in
    let small : AllByRecursion IsSmall notes = notes_are_small r touched in
    let k : Kept = written r.kept (Master_write (started_master r) (end r)) in
    let c : SameCore k (all_written k (each_synced notes)) = small_all k notes small in
    record {
      log = Stands (sym c.log ∙ restarted s logs n r a);
      lead = Follows follows;
      out = tt;
      batches = (tt, (tt, each_batches notes));
      writes = quiet_start s logs told pages n r notes a small;
    }

reverting_goes : (s : Setting) (logs : Logs) (told : Told) (pages n : ℕ) (r : Replica) → At s logs n r → r.leads ≡ false → PartGoes logs told pages r (starts_reverting r)
reverting_goes s logs told pages n r a follows = record {
  log = Stands (restarted s logs n r a);
  lead = Follows follows;
  out = tt;
  batches = (tt, (tt, tt));
  writes = quiet_start s logs told pages n r [] a tt;
}

pub start_goes : (s : Setting) (logs : Logs) (told : Told) (n : ℕ) (h : Here) (r : Replica) → At s logs n r → h.number ≡ n → h.store.term ≡ s.now → h.store.primary ≡ s.leader s.now → PartGoes logs told h.pages r (start_part h r)
unfolding start_part
start_goes s logs told n h r a number now primary =
    let new : List Record = start_records h r in
    checked_goes logs told h.pages r (checks_of_start h r new) _
    (λ p.
    let follows : r.leads ≡ false = by_bool r.leads (λ v. r.leads ≡ v → r.leads ≡ false) (λ _ e. absurd (false≢true (sym p.0 ∙ (a.leads e).up))) (λ _ e. e) refl in
    if_has (PartGoes logs told h.pages r) (is_reverting r.state) (starts_reverting r) _
    (λ _. reverting_goes s logs told h.pages n r a follows)
    (λ _. if_has (PartGoes logs told h.pages r) (is_named h) (starts_first h r new) (starts_second r (touched_up_to h.pages (end r) r))
    (λ t.
    let same : h.store.primary ≡ h.number = grind arith in
    first_goes s logs told n h new r a (subst (MayLead logs r) (sym now) (may_lead s logs n r a (sym primary ∙ same ∙ number))) (ltb-false _ _ p.1.1.1.0)
    (if_has (λ (l : List Record). l ≡ promotion_records h.pages h.store.term (records r)) (is_named h) (promotion_records h.pages h.store.term (records r)) [] (λ _. refl) (λ f. absurd (false≢true (sym f ∙ t)))))
    (λ _. second_goes s logs told h.pages n r _ a follows)))
