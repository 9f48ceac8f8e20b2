-- What each event owes: how the log of its replica goes on, done whole and after each of its batches.
use Rattle.std.proofs.Common.{◌≡◌, ℕ, zero, suc, ◌≤◌, List, [], ◌∷◌, ◌++◌, length, take, refl, sym, ap, ◌∙◌, subst, arith}
use Rattle.std.specs.Prelude.{nat_le}
use Rattle.std.specs.List.{AllByRecursion, filter}
use Rattle.std.proofs.lemmas.Bool.{leb-false}
use Rattle.std.proofs.lemmas.List.{take_all}
use Rattle.ag_model.specs.declared.record.Record.{Record}
use Rattle.ag_model.specs.declared.record.Log.{Log}
use Rattle.ag_model.specs.declared.answer.Answer.{Answer}
use Rattle.ag_model.specs.Blocks.{cut_at}
use Rattle.ag_rules.specs.Replica.{Replica, Kept, Master, end, image}
use Rattle.ag_rules.specs.Plan.{Part, Posting, Write, Batch, Master_write, Note_write, written, all_written, each_synced, Check, unless, at_once, writing}
use Rattle.ag_rules.specs.Access.{access, cases_of_access, pended, kind_of}
use Rattle.ag_lists.proofs.Tests.{by_bool, if_has}
use Rattle.ag_laws.specs.Logs.{Logs, Setting}
use Rattle.ag_laws.specs.Ends.{EndsIn}
use Rattle.ag_laws.specs.At.{At}
use Rattle.ag_laws.proofs.Plans.{unless_has, case_has, Passes}
use Rattle.ag_laws.proofs.Steps.{IsSmall, IsBatch}
use Rattle.ag_laws.proofs.Disks.{SameCore, small_some, small_all, each_batches}
use Rattle.ag_laws.proofs.Blocks.{small_then, small_then_all}
use Rattle.ag_law_proper.specs.Growth.{lead_of, Steps, Same, LeadGoes, Follows, Leads, Takes, Told, LogGoes, Stands, Posts}

-- what an event does at replica r
pub record PartGoes (logs : Logs) (told : Told) (pages : ℕ) (r : Replica) (part : Part) : Type 0 where
  pub log : LogGoes logs told pages r part.after.kept.log
  pub lead : LeadGoes pages r part.after
  pub out : AllByRecursion (λ p. Posts told r p.message) part.out
  pub batches : AllByRecursion IsBatch part.writes
  pub writes : (j : ℕ) → LogGoes logs told pages r (all_written r.kept (take j part.writes)).log

-- a replica with the same role, log and transactions
pub lead_same : (pages : ℕ) (r after : Replica) → after.leads ≡ r.leads → lead_of after ≡ lead_of r → LeadGoes pages r after
lead_same pages r after role same =
    by_bool r.leads (λ v. r.leads ≡ v → LeadGoes pages r after) (λ _ e. Leads e (Same same)) (λ _ e. Follows (role ∙ e)) refl

-- an event that writes nothing
pub quiet_goes : (logs : Logs) (told : Told) (pages : ℕ) (r : Replica) (part : Part) → part.writes ≡ [] → part.after.kept.log ≡ r.kept.log → LeadGoes pages r part.after → AllByRecursion (λ p. Posts told r p.message) part.out → PartGoes logs told pages r part
quiet_goes logs told pages r part none same lead out = record {
  log = Stands same;
  lead = lead;
  out = out;
  batches = subst (λ (ws : List Batch). AllByRecursion IsBatch ws) (sym none) tt;
  writes = λ j. subst (λ (ws : List Batch). LogGoes logs told pages r (all_written r.kept (take j ws)).log) (sym none) (of_none j);
}
  where
    of_none : (j : ℕ) → LogGoes logs told pages r (all_written r.kept (take j [])).log
    of_none zero = Stands refl
    of_none (suc j) = Stands refl

-- an answer that leaves the disk
pub at_once_goes : (logs : Logs) (told : Told) (pages : ℕ) (r : Replica) (a : Answer) (after : Replica) → after.kept.log ≡ r.kept.log → LeadGoes pages r after → PartGoes logs told pages r (at_once a after)
at_once_goes logs told pages r a after same lead = quiet_goes logs told pages r (at_once a after) refl same lead tt

-- an answer that changes nothing
pub same_goes : (logs : Logs) (told : Told) (pages : ℕ) (r : Replica) (a : Answer) → PartGoes logs told pages r (at_once a r)
same_goes logs told pages r a = at_once_goes logs told pages r a r refl (lead_same pages r r refl refl)

-- an event with refusals
pub checked_goes : (logs : Logs) (told : Told) (pages : ℕ) (r : Replica) (checks : List Check) (part : Part) → (Passes checks → PartGoes logs told pages r part) → PartGoes logs told pages r (unless checks r part)
checked_goes logs told pages r checks part f = unless_has (PartGoes logs told pages r) checks r part (λ why. same_goes logs told pages r _) f

-- what leads with a disk leads with another one of the same log
pub lead_core : (pages : ℕ) (r after : Replica) (k : Kept) → k.log ≡ after.kept.log → LeadGoes pages r after → LeadGoes pages r (record after { kept = k })
lead_core pages r after k same (Follows f) = Follows f
lead_core pages r after k same (Leads l step) = Leads l (subst (Steps pages (lead_of r)) (ap (λ (x : Log). record { log = x.records ++ after.leading.buffer; buffer = after.leading.buffer; open_txns = after.leading.open_txns; last_txn = after.leading.last_txn }) (sym same)) step)
lead_core pages r after k same (Takes term low is) = Takes term low (ap (λ (x : Log). record { log = x.records ++ after.leading.buffer; buffer = after.leading.buffer; open_txns = after.leading.open_txns; last_txn = after.leading.last_txn }) same ∙ is)

-- an event whose writes are small
pub small_goes : (logs : Logs) (told : Told) (pages : ℕ) (r : Replica) (a : Answer) (ws : List Write) (then_ : Replica) → then_.kept ≡ r.kept → AllByRecursion IsSmall ws → LeadGoes pages r then_ → PartGoes logs told pages r (writing a (each_synced ws) [] then_)
small_goes logs told pages r a ws then_ same small lead =
    let c : SameCore then_.kept (all_written then_.kept (each_synced ws)) = small_all then_.kept ws small in
    record {
      log = Stands (sym c.log ∙ ap (λ (k : Kept). k.log) same);
      lead = lead_core pages r then_ (all_written then_.kept (each_synced ws)) (sym c.log) lead;
      out = tt;
      batches = each_batches ws;
      writes = λ j. Stands (sym (small_some r.kept ws j small).log);
    }

-- a cut at the end leaves the log
ends_whole : (start len : ℕ) (es : List ℕ) → EndsIn start es len → (start ≤ len) × (filter (λ e. nat_le e len) es ≡ es)
ends_whole start len [] p = (p, refl)
ends_whole start len (e ∷ es) p =
    let q : (e ≤ len) × (filter (λ e. nat_le e len) es ≡ es) = ends_whole e len es p.1 in (
      omega (arith, p.0, q.0),
      if_has (λ (xs : List ℕ). xs ≡ e ∷ es) (nat_le e len) (e ∷ filter (λ e. nat_le e len) es) (filter (λ e. nat_le e len) es)
          (λ _. ap (λ xs. e ∷ xs) q.1)
          (λ f. absurd (omega (arith, leb-false e len f, q.0))),
    )

pub log_is : (l : Log) (a : List Record) (es : List ℕ) → a ≡ l.records → es ≡ l.ends → record { records = a; ends = es } ≡ l
log_is l a es p q = ap (λ x. record { records = x; ends = es }) p ∙ ap (λ x. record { records = l.records; ends = x }) q

pub cut_whole : (l : Log) (n : ℕ) → n ≡ length l.records → EndsIn 0 l.ends (length l.records) → cut_at n l ≡ l
cut_whole l n same p =
    log_is l (take n l.records) (filter (λ e. nat_le e n) l.ends) (take_all n l.records (omega (arith, same)))
    (ap (λ m. filter (λ e. nat_le e m) l.ends) same ∙ (ends_whole 0 (length l.records) l.ends p).1)

-- a write of the master that cuts nothing
pub mastered : (k k2 : Kept) (m : Master) (n : ℕ) → SameCore k k2 → n ≡ length k.log.records → EndsIn 0 k.log.ends (length k.log.records) → (written k2 (Master_write m n)).log ≡ k.log
mastered k k2 m n c same p = ap (cut_at n) (sym c.log) ∙ cut_whole k.log n same p

-- small writes, and then the master
pub remaster_goes : (s : Setting) (logs : Logs) (told : Told) (pages n : ℕ) (r : Replica) (a : Answer) (ws : List Write) (m : Master) (out : List Posting) (then_ : Replica) → At s logs n r → then_.kept ≡ r.kept → AllByRecursion IsSmall ws → LeadGoes pages r then_
    → AllByRecursion (λ p. Posts told r p.message) out → PartGoes logs told pages r (writing a (each_synced (ws ++ Master_write m (end r) ∷ [])) out then_)
remaster_goes s logs told pages n r a ws m out then_ at same small lead posts =
    let bs : List Batch = each_synced (ws ++ Master_write m (end r) ∷ []) in
    let whole : (all_written then_.kept bs).log ≡ then_.kept.log =
    subst (λ (k : Kept). (all_written k bs).log ≡ k.log) (sym same)
    (small_then_all (λ (x : Kept). x.log ≡ r.kept.log) r.kept ws (Master_write m (end r) ∷ []) small (λ k2 c. mastered r.kept k2 m (end r) c refl at.kept.ends)) in
    record {
      log = Stands (whole ∙ ap (λ (k : Kept). k.log) same);
      lead = lead_core pages r then_ (all_written then_.kept bs) whole lead;
      out = posts;
      batches = each_batches (ws ++ Master_write m (end r) ∷ []);
      writes = λ j. Stands (small_then (λ (x : Kept). x.log ≡ r.kept.log) r.kept ws (Master_write m (end r) ∷ []) j small (λ k2 c i. some k2 c i));
    }
  where
    some : (k2 : Kept) → SameCore r.kept k2 → (i : ℕ) → (all_written k2 (take i (each_synced (Master_write m (end r) ∷ [])))).log ≡ r.kept.log
    some k2 c zero = sym c.log
    some k2 c (suc zero) = mastered r.kept k2 m (end r) c refl at.kept.ends
    some k2 c (suc (suc i)) = mastered r.kept k2 m (end r) c refl at.kept.ends

-- the access to a page
pub access_goes : (logs : Logs) (told : Told) (pages : ℕ) (r : Replica) (p : ℕ) (part : Part) → PartGoes logs told pages r part → PartGoes logs told pages r (access r p part)
unfolding access
access_goes logs told pages r p part goes =
    case_has (PartGoes logs told pages r) (cases_of_access r p) part (
      (λ _. same_goes logs told pages r _),
      (
        (λ _. at_once_goes logs told pages r _ (pended r p) refl (lead_same pages r (pended r p) refl refl)),
        ((λ _. small_goes logs told pages r _ (Note_write p (kind_of (image r.kept p)) ∷ []) (pended r p) refl (tt, tt) (lead_same pages r (pended r p) refl refl)), tt),
      ),
    )
    (λ _. goes)
