-- The logs of the terms, read off the groups of a run.
use Rattle.std.specs.Prelude.{if◌then◌else◌, ◌==◌, Option, Some, None, nat_le}
use Rattle.std.proofs.Common.{◌≡◌, ℕ, ◌+◌, ◌<◌, ◌≤◌, List, [], ◌∷◌, ◌++◌, refl, sym, ap, ◌∙◌, arith}
use Rattle.std.specs.List.{filter, fold}
use Rattle.std.proofs.lemmas.Bool.{eqb-true, eqb-false, leb-true, leb-false}
use Rattle.ag_model.specs.declared.record.Record.{Record}
use Rattle.ag_rules.specs.Replica.{records, term_of_disk}
use Rattle.ag_rules.specs.Group.{Group, replica}
use Rattle.ag_rules.specs.Run.{Moment}
use Rattle.ag_rules.specs.TermLog.{groups, primary_of, longer, longest, log_of_primary, term_log}
use Rattle.ag_lists.proofs.Tests.{by_bool, if_has}
use Rattle.ag_laws.specs.Logs.{Setting, Logs}
use Rattle.ag_laws.specs.Disk.{IsOwn}
use Rattle.ag_laws.specs.At.{At}
use Rattle.ag_laws.specs.Good.{Good}
use Rattle.ag_laws.specs.Keeps.{Later}
use Rattle.ag_laws.proofs.Prefix.{prefix_refl, longer_prefix}
use Rattle.ag_laws.proofs.Runs.{longest_from}

-- one more group
longest_push : (t n : ℕ) (log : List Record) (gs : List Group) (g : Group) → longest_from t n log (gs ++ g ∷ []) ≡ (if (replica g n).term == t then longer (longest_from t n log gs) (records (replica g n)) else longest_from t n log gs)
longest_push t n log [] g =
    if_has (λ (xs : List Group). fold (λ l x. longer l (records (replica x n))) log xs ≡ (if (replica g n).term == t then longer log (records (replica g n)) else log)) ((replica g n).term == t) (g ∷ []) []
    (λ e. sym (ap (λ b. if b then longer log (records (replica g n)) else log) e)) (λ e. sym (ap (λ b. if b then longer log (records (replica g n)) else log) e))
longest_push t n log (x ∷ gs) g =
    by_bool ((replica x n).term == t) (λ v. fold (λ l y. longer l (records (replica y n))) log (if v then x ∷ filter (λ y. (replica y n).term == t) (gs ++ g ∷ []) else filter (λ y. (replica y n).term == t) (gs ++ g ∷ []))
    ≡ (if (replica g n).term == t then longer (fold (λ l y. longer l (records (replica y n))) log (if v then x ∷ filter (λ y. (replica y n).term == t) gs else filter (λ y. (replica y n).term == t) gs)) (records (replica g n)) else fold (λ l y. longer l (records (replica y n))) log (if v then x ∷ filter (λ y. (replica y n).term == t) gs else filter (λ y. (replica y n).term == t) gs)))
    (λ _. longest_push t n (longer log (records (replica x n))) gs g)
    (λ _. longest_push t n log gs g)

primary_push : (t : ℕ) (gs : List Group) (g : Group) (n : ℕ) → primary_of t gs ≡ Some n → primary_of t (gs ++ g ∷ []) ≡ Some n
primary_push t [] g n e = absurd (cc)
primary_push t (x ∷ gs) g n e =
    by_bool (x.register.term == t) (λ v. (if v then Some x.register.primary else primary_of t gs) ≡ Some n → (if v then Some x.register.primary else primary_of t (gs ++ g ∷ [])) ≡ Some n)
    (λ _ q. q)
    (λ _ q. primary_push t gs g n q)
    e

primary_new : (t : ℕ) (gs : List Group) (g : Group) → primary_of t gs ≡ None → primary_of t (gs ++ g ∷ []) ≡ (if g.register.term == t then Some g.register.primary else None)
primary_new t [] g e = refl
primary_new t (x ∷ gs) g e =
    by_bool (x.register.term == t) (λ v. (if v then Some x.register.primary else primary_of t gs) ≡ None → (if v then Some x.register.primary else primary_of t (gs ++ g ∷ [])) ≡ (if g.register.term == t then Some g.register.primary else None))
    (λ _ q. absurd (cc))
    (λ _ q. primary_new t gs g q)
    e

-- the groups so far tell primaries and logs
pub record Logged (s : Setting) (logs : Logs) (gs : List Group) : Type 0 where
  pub primary : (t : ℕ) → 0 < t → t ≤ s.now → primary_of t gs ≡ Some (s.leader t)
  pub none : (t : ℕ) → s.now < t → primary_of t gs ≡ None
  pub logs_are : (t : ℕ) → 0 < t → t ≤ s.now → longest t (s.leader t) gs ≡ logs t
  pub later : (t n : ℕ) → s.now < t → longest t n gs ≡ []

-- one more group
pub logged_next : (s s2 : Setting) (logs grown : Logs) (gs : List Group) (g : Group) → Logged s logs gs → ((t : ℕ) → s.now < t → logs t ≡ []) → Good s2 grown g → Later s logs s2 grown g → s2.now ≤ s.now + 1 → Logged s2 grown (gs ++ g ∷ [])
logged_next s s2 logs grown gs g l future good later step = record {
  primary = λ t some low.
      by_bool (nat_le t s.now) (λ v. nat_le t s.now ≡ v → primary_of t (gs ++ g ∷ []) ≡ Some (s2.leader t))
      (λ _ e. let old : t ≤ s.now = leb-true t s.now e in primary_push t gs g (s2.leader t) (l.primary t some old ∙ ap Some (later.leader t old)))
      (λ _ e.
      let new : s.now < t = omega (arith, leb-false t s.now e) in
      let at : s2.now ≡ t = omega (arith, new, low, step) in
      primary_new t gs g (l.none t new)
      ∙ if_has (λ (o : Option ℕ). o ≡ Some (s2.leader t)) (g.register.term == t) (Some g.register.primary) None (λ _. ap Some (good.primary ∙ ap s2.leader at)) (λ f. absurd (eqb-false g.register.term t f (good.now ∙ at))))
      refl;
  none = λ t high.
      primary_new t gs g (l.none t (omega (arith, high, later.now)))
      ∙ if_has (λ (o : Option ℕ). o ≡ None) (g.register.term == t) (Some g.register.primary) None (λ e. absurd (omega (arith, eqb-true g.register.term t e, good.now, high))) (λ _. refl);
  logs_are = λ t some low.
      let n : ℕ = s2.leader t in
      let before : longest t n gs ≡ logs t =
      by_bool (nat_le t s.now) (λ v. nat_le t s.now ≡ v → longest t n gs ≡ logs t)
      (λ _ e. let old : t ≤ s.now = leb-true t s.now e in ap (λ m. longest t m gs) (sym (later.leader t old)) ∙ l.logs_are t some old)
      (λ _ e. let new : s.now < t = omega (arith, leb-false t s.now e) in l.later t n new ∙ sym (future t new))
      refl in
      let a : At s2 grown n (replica g n) = good.each n in
      longest_push t n [] gs g
      ∙ if_has (λ (x : List Record). x ≡ grown t) ((replica g n).term == t) (longer (longest t n gs) (records (replica g n))) (longest t n gs)
      (λ e.
      let at : (replica g n).term ≡ t = eqb-true (replica g n).term t e in
      let same : term_of_disk (replica g n).kept ≡ t = sym a.term ∙ at in
      let own : IsOwn (grown (term_of_disk (replica g n).kept)) (term_of_disk (replica g n).kept) (replica g n).kept = a.kept.own (ap s2.leader same) in
      let whole : records (replica g n) ≡ grown t = own.whole ∙ ap grown same in
      ap (λ x. longer x (records (replica g n))) before ∙ ap (longer (logs t)) whole ∙ longer_prefix (logs t) (grown t) (later.longer t))
      (λ f. before ∙ later.others t (eqb-false (replica g n).term t f));
  later = λ t n high.
      let a : At s2 grown n (replica g n) = good.each n in
      longest_push t n [] gs g
      ∙ if_has (λ (x : List Record). x ≡ []) ((replica g n).term == t) (longer (longest t n gs) (records (replica g n))) (longest t n gs)
      (λ e. absurd (omega (arith, eqb-true (replica g n).term t e, a.term, a.kept.past, high)))
      (λ _. l.later t n (omega (arith, high, later.now)));
}

-- the same group once more
pub logged_again : (s : Setting) (logs : Logs) (gs : List Group) (g : Group) → Logged s logs gs → Good s logs g → Logged s logs (gs ++ g ∷ [])
logged_again s logs gs g l good = logged_next s s logs logs gs g l good.are.future good (record { longer = λ t. prefix_refl (logs t); others = λ t _. refl; config = refl; now = omega arith; leader = λ t _. refl }) (omega arith)

-- the log of a term
pub term_log_is : (s : Setting) (logs : Logs) (ms : List Moment) (t : ℕ) → Logged s logs (groups ms) → 0 < t → t ≤ s.now → term_log ms t ≡ logs t
unfolding term_log
term_log_is s logs ms t l some low = ap (log_of_primary t (groups ms)) (l.primary t some low) ∙ l.logs_are t some low
