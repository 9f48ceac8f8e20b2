-- What is used of the logs of the terms, and of each replica beside them.
use Rattle.std.proofs.Common.{◌≡◌, ◌≢◌, ℕ, ◌+◌, ◌<◌, ◌≤◌, List, [], length, take, true, false, sym, ap, ◌∙◌, subst, arith, take_all}
use Rattle.std.specs.Prelude.{Some, None, slice_get}
use Rattle.ag_model.specs.declared.record.Record.{Record}
use Rattle.ag_model.specs.declared.record.Record.TheVariants.{Term}
use Rattle.ag_model.specs.declared.config.Config.{Config}
use Rattle.ag_model.specs.Starts.{last_term}
use Rattle.ag_rules.specs.Replica.{Replica, records, term_of_disk}
use Rattle.ag_rules.specs.Group.{Group, replica}
use Rattle.ag_laws.specs.Prefix.{IsPrefixOf}
use Rattle.ag_laws.specs.Logs.{Logs, Setting, IsTraced, AreLogs}
use Rattle.ag_laws.specs.Disk.{IsOwn}
use Rattle.ag_laws.specs.At.{At}
use Rattle.ag_laws.specs.Good.{Good}
use Rattle.ag_laws.specs.Keeps.{Later}
use Rattle.ag_laws.proofs.Prefix.{prefix_trans, take_prefix}
use Rattle.ag_law_kept.specs.Past.{Past, Meets}
use Rattle.ag_law_kept.proofs.Known.{last_at_term}

-- a replica that the store made primary of its term has the whole log of the term, with the term's own record
pub record HasOwn (logs : Logs) (r : Replica) : Type 0 where
  pub whole : records r ≡ logs r.term
  pub begun : last_term (records r) ≡ r.term

-- a replica that acts as primary
pub record Acts (past : Past) (n : ℕ) (r : Replica) : Type 0 where
  pub up : r.up ≡ true
  pub target : past.target r.term ≡ n
  pub some : 0 < r.term

-- replica n, where the store's term is now
pub record IsGrounded (past : Past) (logs : Logs) (now n : ℕ) (r : Replica) : Type 0 where
  pub prefix : IsPrefixOf (records r) (logs r.term)
  pub term : r.term ≡ term_of_disk r.kept
  pub reached : r.term ≤ now
  pub own : past.target r.term ≡ n → HasOwn logs r
  pub ahead : (t : ℕ) → t ≤ now → past.target t ≡ n → r.term < t → logs t ≡ []
  pub acts : r.leads ≡ true → Acts past n r
  pub down : r.up ≡ false → r.following.ticket ≡ None

-- the logs of the terms
pub record AreTraced (logs : Logs) (now : ℕ) : Type 0 where
  pub traced : (t : ℕ) → IsTraced logs (logs t)
  pub bounded : (t n : ℕ) → last_term (take n (logs t)) ≤ t
  pub future : (t : ℕ) → now < t → logs t ≡ []
  pub none : logs 0 ≡ []
  pub some : 0 < now

pub record IsWorld (past : Past) (logs : Logs) (g : Group) : Type 0 where
  pub are : AreTraced logs g.register.term
  pub each : (n : ℕ) → IsGrounded past logs g.register.term n (replica g n)
  pub primary : past.target g.register.term ≡ g.register.primary
  pub there : g.register.primary < length g.replicas
  pub count : length g.replicas ≡ length g.config.modes

grounded : (past : Past) (s : Setting) (logs : Logs) (now n : ℕ) (r : Replica) → Meets past s → now ≡ s.now → At s logs n r → IsGrounded past logs now n r
grounded past s logs now n r meets same a =
    let t : ℕ = term_of_disk r.kept in
    let is : t ≡ r.term = sym a.term in
    let low : r.term ≤ s.now = omega (arith, a.kept.past, a.term) in
    record {
      prefix = subst (λ (u : ℕ). IsPrefixOf (records r) (logs u)) is a.kept.prefix;
      term = a.term;
      reached = omega (arith, low, same);
      own = λ e.
          let o : IsOwn (logs t) t r.kept = a.kept.own (ap s.leader is ∙ sym (meets r.term low) ∙ e) in
          record { whole = o.whole ∙ ap logs is; begun = o.begun ∙ is };
      ahead = λ u h e q. a.kept.ahead u (sym (meets u (omega (arith, h, same))) ∙ e) (omega (arith, q, is));
      acts = λ e. let l = a.leads e in record { up = l.up; target = meets r.term low ∙ l.leader; some = l.some };
      down = a.down;
    }

are_traced : (s : Setting) (logs : Logs) (now : ℕ) → now ≡ s.now → AreLogs s logs → AreTraced logs now
are_traced s logs now same are = record { traced = are.traced; bounded = are.bounded; future = λ t h. are.future t (omega (arith, h, same)); none = are.none; some = omega (arith, are.some, same) }

pub world : (past : Past) (s : Setting) (logs : Logs) (g : Group) → Meets past s → Good s logs g → IsWorld past logs g
world past s logs g meets good = record {
  are = are_traced s logs g.register.term good.now good.are;
  each = λ n. grounded past s logs g.register.term n (replica g n) meets good.now (good.each n);
  primary = meets g.register.term (omega (arith, good.now)) ∙ ap s.leader good.now ∙ sym good.primary;
  there = good.there;
  count = good.count ∙ ap (λ (c : Config). length c.modes) (sym good.config);
}

-- how the logs have grown up to a group
pub record AreGrown (past : Past) (logs grown : Logs) (after : Group) : Type 0 where
  pub longer : (t : ℕ) → IsPrefixOf (logs t) (grown t)
  pub others : (t : ℕ) → t ≤ after.register.term → (replica after (past.target t)).term ≢ t → logs t ≡ grown t

pub are_grown : (past : Past) (s s2 : Setting) (logs grown : Logs) (after : Group) → Meets past s2 → after.register.term ≡ s2.now → Later s logs s2 grown after → AreGrown past logs grown after
are_grown past s s2 logs grown after meets now later = record {
  longer = later.longer;
  others = λ t h p. later.others t (λ e. p (ap (λ (m : ℕ). (replica after m).term) (meets t (omega (arith, h, now))) ∙ e));
}

-- no record of a later term stands in the log of a term
pub no_later : (logs : Logs) (now i t u : ℕ) → AreTraced logs now → slice_get (logs t) i ≡ Some (Term u) → u ≤ t
no_later logs now i t u are e = omega (arith, are.bounded t (i + 1), last_at_term i u (logs t) e)

-- the last term doesn't fall along the log of a term
pub last_rises : (logs : Logs) (now t : ℕ) (a b : List Record) → AreTraced logs now → IsPrefixOf a b → IsPrefixOf b (logs t) → last_term a ≤ last_term b
last_rises logs now t a b are p q =
    let whole : take (length b) (logs t) ≡ b = sym (take_prefix (length b) b (logs t) (omega arith) q) ∙ take_all (length b) b (omega arith) in
    let trace : IsPrefixOf b (logs (last_term b)) = subst (λ (l : List Record). IsPrefixOf l (logs (last_term l))) whole (are.traced t (length b)) in
    let in_it : IsPrefixOf a (logs (last_term b)) = prefix_trans a b (logs (last_term b)) p trace in
    let same : take (length a) (logs (last_term b)) ≡ a = sym (take_prefix (length a) a (logs (last_term b)) (omega arith) in_it) ∙ take_all (length a) a (omega arith) in
    omega (arith, are.bounded (last_term b) (length a), ap (λ (l : List Record). last_term l) same)

-- a replica whose log and saved term go on doesn't fall back in terms
pub term_rises : (past past2 : Past) (logs grown : Logs) (now now2 n : ℕ) (r r2 : Replica) → AreTraced grown now2 → IsGrounded past logs now n r → IsGrounded past2 grown now2 n r2 → IsPrefixOf (records r) (records r2) → r.kept.master.term ≤ r2.kept.master.term → r.term ≤ r2.term
term_rises past past2 logs grown now now2 n r r2 are a b p h =
    omega (arith, a.term, b.term, h, last_rises grown now2 r2.term (records r) (records r2) are p b.prefix)
