-- The marks of the terms where logs have grown, and the logs and messages that have them.
use Rattle.std.specs.Prelude.{if◌then◌else◌}
use Rattle.std.proofs.Common.{◌≡◌, ℕ, ◌+◌, ◌-◌, ◌<◌, ◌≤◌, List, [], ◌∷◌, ◌++◌, length, take, drop, Bool, true, inl, inr, refl, sym, ap, ◌∙◌, arith, append_assoc, length-append}
use Rattle.std.specs.Prelude.{◌==◌, ◌||◌, ◌⊎◌, nat_lt, nat_le}
use Rattle.std.specs.List.{filter}
use Rattle.std.proofs.lemmas.Bool.{ltb-true, ltb-false, leb-true, leb-false}
use Rattle.std.proofs.lemmas.List.{append-nil, take-append-drop, length-take-le}
use Rattle.ag_model.specs.declared.record.Record.{Record}
use Rattle.ag_model.specs.declared.record.Record.TheVariants.{Term}
use Rattle.ag_model.specs.declared.record.Log.{Log}
use Rattle.ag_model.specs.declared.config.TermStart.{TermStart}
use Rattle.ag_model.specs.declared.message.Block.{Block}
use Rattle.ag_model.specs.declared.message.Body.{Body}
use Rattle.ag_model.specs.declared.message.Body.TheVariants.{Hello, Resume, Block as OfBlock, Ack, PageAsk, PageGive, PageNo}
use Rattle.ag_model.specs.Blocks.{cut_at}
use Rattle.ag_model.specs.Rows.{contains}
use Rattle.ag_model.specs.Starts.{last_term}
use Rattle.ag_rules.specs.Group.{Group, replica}
use Rattle.ag_lists.proofs.Tests.{by_bool, if_has}
use Rattle.ag_lists.proofs.Each.{all_map}
use Rattle.ag_laws.specs.Prefix.{IsPrefixOf}
use Rattle.ag_laws.specs.Logs.{Logs, IsTraced}
use Rattle.ag_laws.specs.Fits.{IsPart}
use Rattle.ag_laws.proofs.Prefix.{prefix_length, take_prefix}
use Rattle.ag_laws.proofs.Grow.{traced_longer}
use Rattle.ag_law_proper.proofs.Splits.{OldPlace, NewPlace, place_in}
use Rattle.ag_law_blocks.specs.Marks.{Marks, mark_at, Marked, MarkedFork, BodyMarked}
use Rattle.ag_law_blocks.proofs.Ends.{Extends}
use Rattle.ag_model.proofs.Rising.{rises-filter, filter-contains}

-- the marks after an event: past the old logs, those of the leaders' disks
abbrev pub grown_marks : Marks → Logs → (ℕ → ℕ) → Group → Marks
grown_marks marks logs leader after u n = if nat_lt (length (logs u)) n then contains n (0 ∷ (replica after (leader u)).kept.log.ends) else marks u n

mark_old : (marks : Marks) (logs : Logs) (leader : ℕ → ℕ) (after : Group) (u n : ℕ) → n ≤ length (logs u) → grown_marks marks logs leader after u n ≡ marks u n
mark_old marks logs leader after u n h = if_has (λ (b : Bool). b ≡ marks u n) (nat_lt (length (logs u)) n) _ (marks u n) (λ e. absurd (omega (arith, h, ltb-true (length (logs u)) n e))) (λ _. refl)

pub mark_new : (marks : Marks) (logs : Logs) (leader : ℕ → ℕ) (after : Group) (u n : ℕ) → length (logs u) < n → grown_marks marks logs leader after u n ≡ contains n (0 ∷ (replica after (leader u)).kept.log.ends)
mark_new marks logs leader after u n h = if_has (λ (b : Bool). b ≡ contains n (0 ∷ (replica after (leader u)).kept.log.ends)) (nat_lt (length (logs u)) n) (contains n (0 ∷ (replica after (leader u)).kept.log.ends)) (marks u n) (λ _. refl) (λ e. absurd (omega (arith, h, ltb-false (length (logs u)) n e)))

-- a beginning of a traced log is within the log of its last term
pub traced_within : (logs : Logs) (log : List Record) (n : ℕ) → IsTraced logs log → n ≤ length log → n ≤ length (logs (last_term (take n log)))
traced_within logs log n t h = omega (arith, prefix_length (take n log) (logs (last_term (take n log))) (t n), length-take-le n log h)

-- what changed between the groups
pub record Between (marks : Marks) (logs : Logs) (new : Marks) (grown : Logs) : Type 0 where
  pub same : (u n : ℕ) → n ≤ length (logs u) → new u n ≡ marks u n
  pub longer : (t : ℕ) → IsPrefixOf (logs t) (grown t)
  pub traced : (t : ℕ) → IsTraced logs (logs t)

pub between : (marks : Marks) (logs grown : Logs) (leader : ℕ → ℕ) (after : Group) → ((t : ℕ) → IsPrefixOf (logs t) (grown t)) → ((t : ℕ) → IsTraced logs (logs t)) → Between marks logs (grown_marks marks logs leader after) grown
between marks logs grown leader after longer traced = record { same = mark_old marks logs leader after; longer = longer; traced = traced }

pub same_mark : (marks : Marks) (logs : Logs) (new : Marks) (grown : Logs) (log : List Record) (n : ℕ) → Between marks logs new grown → IsTraced logs log → n ≤ length log → mark_at new log n ≡ mark_at marks log n
same_mark marks logs new grown log n b t h = b.same (last_term (take n log)) n (traced_within logs log n t h)

pub mark_longer : (marks : Marks) (a b : List Record) (n : ℕ) → IsPrefixOf a b → n ≤ length a → mark_at marks b n ≡ mark_at marks a n
mark_longer marks a b n p h = ap (λ (l : List Record). marks (last_term l) n) (sym (take_prefix n a b h p))

-- the mark of a term's log, where it has grown
term_mark : (marks : Marks) (logs : Logs) (new : Marks) (grown : Logs) (t n : ℕ) → Between marks logs new grown → n ≤ length (logs t) → mark_at new (grown t) n ≡ mark_at marks (logs t) n
term_mark marks logs new grown t n b h = mark_longer new (logs t) (grown t) n (b.longer t) h ∙ same_mark marks logs new grown (logs t) n b (b.traced t) h

pub part_within : (log : List Record) (b : Block) → IsPart log b → b.first - 1 + length b.records ≤ length log
part_within log b p =
    let e : length log ≡ length p.front + (length b.records + length p.rest) = ap length (sym p.is) ∙ length-append p.front (b.records ++ p.rest) ∙ ap (λ n. length p.front + n) (length-append b.records p.rest) in
    omega (arith, e, p.first)

-- what a message tells stays
pub body_grows : (marks : Marks) (logs : Logs) (new : Marks) (grown : Logs) (term : ℕ) (b : Body) → Between marks logs new grown → BodyMarked marks logs term b → BodyMarked new grown term b
body_grows marks logs new grown term (Hello ticket its_end starts) b p = record {
  log = p.log;
  long = p.long;
  lists = p.lists;
  traced = traced_longer logs grown p.log b.longer p.traced;
  begins = p.begins;
  whole = same_mark marks logs new grown p.log its_end b p.traced (omega (arith, p.long)) ∙ p.whole;
  terms = all_map (λ (s : TermStart). (s.lsn - 1 ≤ length p.log) × (mark_at marks p.log (s.lsn - 1) ≡ true)) (λ (s : TermStart). (s.lsn - 1 ≤ length p.log) × (mark_at new p.log (s.lsn - 1) ≡ true))
      (λ s q. (q.0, same_mark marks logs new grown p.log (s.lsn - 1) b p.traced q.0 ∙ q.1)) starts p.terms;
}
body_grows marks logs new grown term (Resume ticket fork its_end) b p = record {
  some = p.some;
  within = omega (arith, p.within, prefix_length (logs term) (grown term) (b.longer term));
  whole = term_mark marks logs new grown term fork b p.within ∙ p.whole;
}
body_grows marks logs new grown term (OfBlock k) b p = record {
  part = record {
    front = p.part.front;
    rest = p.part.rest ++ (b.longer term).0;
    is = ap (λ x. p.part.front ++ x) (sym (append_assoc k.records p.part.rest (b.longer term).0)) ∙ sym (append_assoc p.part.front (k.records ++ p.part.rest) (b.longer term).0) ∙ ap (λ x. x ++ (b.longer term).0) p.part.is ∙ (b.longer term).1;
    first = p.part.first;
  };
  some = p.some;
  ends = λ n low high. term_mark marks logs new grown term n b (omega (arith, high, part_within (logs term) k p.part)) ∙ p.ends n low high;
  terms = p.terms;
}
body_grows marks logs new grown term (Ack hardened low) b p = tt
body_grows marks logs new grown term (PageAsk page lsn primary) b p = tt
body_grows marks logs new grown term (PageGive lsn v) b p = tt
body_grows marks logs new grown term (PageNo page) b p = tt

-- a log that stands
pub still_marked : (marks : Marks) (logs : Logs) (new : Marks) (grown : Logs) (l : Log) → Between marks logs new grown → IsTraced logs l.records → Marked marks l → Marked new l
still_marked marks logs new grown l b t m = record { same = λ n h. m.same n h ∙ sym (same_mark marks logs new grown l.records n b t h); rises = m.rises; whole = m.whole; terms = m.terms }

-- a log that is cut at a fork
pub cut_marked : (marks : Marks) (logs : Logs) (new : Marks) (grown : Logs) (l : Log) (term fork : ℕ) → Between marks logs new grown → IsTraced logs l.records → fork ≤ length l.records → IsPrefixOf (take fork l.records) (logs term) → MarkedFork marks (logs term) fork → Marked marks l → Marked new (cut_at fork l)
cut_marked marks logs new grown l term fork b t within prefix told m =
    let recs : List Record = l.records in
    let cut : List Record = take fork recs in
    let long : length cut ≡ fork = length-take-le fork recs within in
    let front : IsPrefixOf cut recs = (drop fork recs, take-append-drop fork recs) in
    let ends : (n : ℕ) → n ≤ fork → contains n (0 ∷ filter (λ e. nat_le e fork) l.ends) ≡ contains n (0 ∷ l.ends) = λ n h. ap (λ x. (n == 0) || x) (filter-contains n fork h l.ends) in
    record {
      same = λ n h. ends n (omega (arith, h, long)) ∙ m.same n (omega (arith, h, long, within)) ∙ sym (same_mark marks logs new grown recs n b t (omega (arith, h, long, within))) ∙ mark_longer new cut recs n front h;
      rises = rises-filter (λ e. nat_le e fork) 0 l.ends m.rises;
      whole = ap (λ n. contains n (0 ∷ filter (λ e. nat_le e fork) l.ends)) long ∙ ends fork (omega arith) ∙ m.same fork within ∙ mark_longer marks cut recs fork front (omega (arith, long)) ∙ sym (mark_longer marks cut (logs term) fork prefix (omega (arith, long))) ∙ told.whole;
      terms = λ first u back e.
          let place : recs ≡ first ++ Term u ∷ (back ++ drop fork recs) = sym front.1 ∙ ap (λ x. x ++ drop fork recs) e ∙ append_assoc first (Term u ∷ back) (drop fork recs) in
          let size : length cut ≡ length first + length (Term u ∷ back) = ap length e ∙ length-append first (Term u ∷ back) in
          ends (length first) (omega (arith, size, long)) ∙ m.terms first u (back ++ drop fork recs) place;
    }

-- a log that goes on by whole blocks
pub grown_marked : (marks : Marks) (logs : Logs) (new : Marks) (grown : Logs) (l more : Log) (tail : List Record) → Between marks logs new grown → IsTraced logs l.records → Marked marks l → Extends l more → more.records ≡ l.records ++ tail
    → ((n : ℕ) → length l.records < n → n ≤ length more.records → mark_at new more.records n ≡ contains n (0 ∷ more.ends))
    → ((first : List Record) (u : ℕ) (back : List Record) → tail ≡ first ++ Term u ∷ back → first ≡ []) → Marked new more
grown_marked marks logs new grown l more tail b t m x is own first_only = record {
  same = λ n h.
      by_bool (nat_le n (length l.records)) (λ v. nat_le n (length l.records) ≡ v → contains n (0 ∷ more.ends) ≡ mark_at new more.records n)
      (λ _ e.
      let low : n ≤ length l.records = leb-true n (length l.records) e in
      x.old n low ∙ m.same n low ∙ sym (same_mark marks logs new grown l.records n b t low) ∙ sym (mark_longer new l.records more.records n (tail, sym is) low))
      (λ _ e. sym (own n (omega (arith, leb-false n (length l.records) e)) h))
      refl;
  rises = x.rises;
  whole = x.whole;
  terms = λ front u back e. by_place front u back (place_in l.records tail front (Term u) back (sym is ∙ e));
}
  where
    by_place : (front : List Record) (u : ℕ) (back : List Record) → OldPlace l.records tail front (Term u) back ⊎ NewPlace l.records tail front (Term u) back → contains (length front) (0 ∷ more.ends) ≡ true
    by_place front u back (inl o) =
        let size : length l.records ≡ length front + length (Term u ∷ o.old) = ap length o.place ∙ length-append front (Term u ∷ o.old) in
        x.old (length front) (omega (arith, size)) ∙ m.terms front u o.old o.place
    by_place front u back (inr k) =
        let none : k.first ≡ [] = first_only k.first u back k.place in
        let long : length front ≡ length l.records = ap length (k.front_is ∙ ap (λ z. l.records ++ z) none ∙ append-nil l.records) in
        ap (λ n. contains n (0 ∷ more.ends)) long ∙ x.old (length l.records) (omega arith) ∙ m.whole
