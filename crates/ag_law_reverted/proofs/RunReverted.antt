-- In each run a replica that finishes reverting equals one restored from its primary's log.
use Rattle.std.proofs.Common.{◌≡◌, ℕ, ◌%◌, ◌<◌, ◌≤◌, List, [], ◌∷◌, length, take, get_or, Bool, refl, sym, ap, ◌∙◌, subst, arith, get_or-set_same}
use Rattle.std.specs.List.{AllByRecursion}
use Rattle.std.proofs.lemmas.List.{take_all, get_or-replicate}
use Rattle.ag_model.specs.declared.config.Config.{Config}
use Rattle.ag_model.specs.declared.record.Record.{Record}
use Rattle.ag_model.specs.declared.event.Event.{Event}
use Rattle.ag_model.specs.declared.event.Event.TheVariants.{Finish}
use Rattle.ag_model.specs.declared.answer.Answer.{Answer}
use Rattle.ag_model.specs.declared.answer.Answer.TheVariants.{Reverted}
use Rattle.ag_model.specs.declared.record.Log.{Log}
use Rattle.ag_model.specs.Page.{value}
use Rattle.ag_rules.specs.Replica.{Replica, Kept, Stripe, records, end, applied_of, no_stripe, all_at}
use Rattle.ag_rules.specs.Group.{Group, replica, with_replica, nobody}
use Rattle.ag_rules.specs.Plan.{Part, Master_write, here, at_node, all_written, each_synced}
use Rattle.ag_rules.specs.Next.{named, done, is_full_to_followed}
use Rattle.ag_rules.specs.Redo.{notes_of, touched_up_to}
use Rattle.ag_rules.specs.FinishEvent.{finish_part, checks_of_finish, finishes_touching, finished_master, finish_writes}
use Rattle.ag_rules.specs.Run.{Moment, moment, run}
use Rattle.ag_rules.specs.Script.{IsEvent, IsScript}
use Rattle.ag_rules.specs.TermLog.{term_log}
use Rattle.ag_rules.specs.RevertedLaw.{Return, return_by, return_at, returns, IsRestored, RevertedLaw}
use Rattle.ag_lists.proofs.Each.{all_map}
use Rattle.ag_laws.specs.Prefix.{IsPrefixOf}
use Rattle.ag_laws.specs.Logs.{Setting, Logs}
use Rattle.ag_laws.specs.At.{At}
use Rattle.ag_laws.specs.Good.{Good}
use Rattle.ag_laws.proofs.Prefix.{prefix_trans, take_prefix}
use Rattle.ag_laws.proofs.Plans.{unless_has}
use Rattle.ag_laws.proofs.Groups.{value_prefix, replicas_posted}
use Rattle.ag_laws.proofs.Blocks.{small_then_all}
use Rattle.ag_laws.proofs.Disks.{notes_are_small}
use Rattle.ag_laws.proofs.Events.{named_there}
use Rattle.ag_laws.proofs.Cuts.{cut_has}
use Rattle.ag_laws.proofs.Runs.{in_run}

-- what a replica is that finished, by the log of its term
record IsBack (logs : Logs) (now : ℕ) (b : Return) : Type 0 where
  past : b.replica.term ≤ now
  prefix : IsPrefixOf (records b.replica) (logs b.replica.term)
  long : length (records b.replica) ≡ b.lsn
  foreign : b.replica.kept.master.foreign ≡ []
  stripes : b.replica.stripes ≡ all_at b.lsn

back_more : (a b : Logs) (low high : ℕ) → ((t : ℕ) → t ≤ low → IsPrefixOf (a t) (b t)) → low ≤ high → (x : Return) → IsBack a low x → IsBack b high x
back_more a b low high more h x p = record {
  past = omega (arith, p.past);
  prefix = prefix_trans (records x.replica) (a x.replica.term) (b x.replica.term) p.prefix (more x.replica.term p.past);
  long = p.long;
  foreign = p.foreign;
  stripes = p.stripes;
}

-- the disk after the writes of finish
record FinishedDisk (r : Replica) (k : Kept) : Type 0 where
  records : k.log.records ≡ records r
  foreign : k.master.foreign ≡ []

finished_disk : (r : Replica) (touched : List ℕ) → FinishedDisk r (all_written r.kept (each_synced (finish_writes r touched)))
finished_disk r touched =
    small_then_all (FinishedDisk r) r.kept (notes_of r touched) (Master_write (finished_master r) (end r) ∷ []) (notes_are_small r touched)
    (λ k2 c. record { records = ap (λ (l : Log). take (end r) l.records) (sym c.log) ∙ take_all (end r) (records r) (omega arith); foreign = refl })

applied_back : (r : Replica) (lsn p : ℕ) → r.stripes ≡ all_at lsn → applied_of r p ≡ lsn
applied_back r lsn p e =
    ap (λ (ss : List Stripe). (get_or ss (p % 16) no_stripe).applied) e
    ∙ ap (λ (s : Stripe). s.applied) (get_or-replicate 16 (p % 16) (record { applied = lsn; published = lsn }) no_stripe (omega arith))

-- such a replica is as restored from a log that goes on
restored_is : (pages : ℕ) (whole : List Record) (b : Return) → IsPrefixOf (records b.replica) whole → length (records b.replica) ≡ b.lsn → b.replica.kept.master.foreign ≡ [] → b.replica.stripes ≡ all_at b.lsn → IsRestored pages whole b
restored_is pages whole b prefix long foreign stripes = record {
  log = sym (take_all b.lsn (records b.replica) (omega (arith, long))) ∙ take_prefix b.lsn (records b.replica) whole (omega (arith, long)) prefix;
  foreign = foreign;
  stripes = stripes;
  pages = λ p sound. ap (λ n. value pages (records b.replica) n p) (applied_back b.replica b.lsn p stripes) ∙ value_prefix pages b.lsn p (records b.replica) whole (omega (arith, long)) prefix;
}

-- a finish that isn't cut short
finish_back : (s : Setting) (logs : Logs) (g : Group) (n : ℕ) (part : Part) → Good s logs g → n < length g.replicas → AllByRecursion (λ (b : Return). (b.replica ≡ part.after) → IsBack logs s.now b) (return_by part.after part.answer)
    → AllByRecursion (IsBack logs s.now) (return_by (replica (at_node g n part).after n) part.answer)
finish_back s logs g n part good h p =
    let same : replica (at_node g n part).after n ≡ part.after = ap (λ (xs : List Replica). get_or xs n nobody) (replicas_posted n part.out (with_replica g n part.after)) ∙ get_or-set_same g.replicas n part.after nobody h in
    subst (λ (x : Replica). AllByRecursion (IsBack logs s.now) (return_by x part.answer)) (sym same) (of_answer part.answer p)
  where
    of_answer : (a : Answer) → AllByRecursion (λ (b : Return). (b.replica ≡ part.after) → IsBack logs s.now b) (return_by part.after a) → AllByRecursion (IsBack logs s.now) (return_by part.after a)
    of_answer (Reverted lsn) q = (q.0 refl, tt)
    of_answer _ q = tt

-- what `finish` makes of the replica
finish_part_back : (s : Setting) (logs : Logs) (g : Group) (n : ℕ) (full : Bool) → Good s logs g → (let part = finish_part (here g n) (replica g n) full in AllByRecursion (λ (b : Return). (b.replica ≡ part.after) → IsBack logs s.now b) (return_by part.after part.answer))
unfolding finish_part
finish_part_back s logs g n full good =
    let r : Replica = replica g n in
    let a : At s logs n r = good.each n in
    let touched : List ℕ = touched_up_to g.config.pages (end r) r in
    let d : FinishedDisk r (all_written r.kept (each_synced (finish_writes r touched))) = finished_disk r touched in
    unless_has (λ part. AllByRecursion (λ (b : Return). (b.replica ≡ part.after) → IsBack logs s.now b) (return_by part.after part.answer)) (checks_of_finish (here g n) r full) r (finishes_touching r touched) (λ why. tt)
    (λ _. (
      (λ _. record {
        past = omega (arith, a.term, a.kept.past);
        prefix = subst (λ (l : List Record). IsPrefixOf l (logs r.term)) (sym d.records) (subst (λ (t : ℕ). IsPrefixOf (records r) (logs t)) (sym a.term) a.kept.prefix);
        long = ap length d.records;
        foreign = d.foreign;
        stripes = refl;
      }),
      tt,
    ))

-- the return that a moment tells
abbrev return_of : Moment → List Return
return_of m = return_at m m.event

-- what `finish` does at replica n
abbrev finish_at : Group → ℕ → Part
finish_at g n = finish_part (here g n) (replica g n) (is_full_to_followed g n)

-- at each event, by the logs before it; where it is cut short, no return is told
back_at : (s : Setting) (logs : Logs) (g : Group) (e : Event) → Good s logs g → IsEvent s.config e → AllByRecursion (IsBack logs s.now) (return_of (moment g e))
unfolding done
back_at s logs g (Finish w suffix) good is =
    let n : ℕ = named g w in
    cut_has (λ q. AllByRecursion (IsBack logs s.now) (return_by (replica q.after n) q.answer)) suffix (at_node g n (finish_at g n)) (λ i mask. tt) (λ c. tt)
    (finish_back s logs g n (finish_at g n) good (named_there s logs g w good is) (finish_part_back s logs g n (is_full_to_followed g n) good))
back_at s logs g _ good is = tt

-- in the whole run, by the logs of its terms
pub returns_are_restored : (c : Config) (es : List Event) → 0 < length c.modes → IsScript c es → RevertedLaw c.pages (run c es)
returns_are_restored c es h is =
    let ms : List Moment = run c es in
    let r : (now : ℕ) × AllByRecursion (IsBack (term_log ms) now) (returns ms) = in_run Return return_of IsBack back_more back_at c es h is in
    all_map (IsBack (term_log ms) r.0) (λ b. IsRestored c.pages (term_log ms b.replica.term) b) (λ b p. restored_is c.pages (term_log ms b.replica.term) b p.prefix p.long p.foreign p.stripes) (returns ms) r.1
