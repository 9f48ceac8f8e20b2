-- From events to runs: what holds at each event by the logs before it holds, in the whole run, by the logs of its terms.
use Rattle.std.proofs.Common.{◌≡◌, ◌≢◌, ℕ, ◌<◌, ◌≤◌, List, [], ◌∷◌, length, get_or, refl, sym, ap, ◌∙◌, subst, arith}
use Rattle.std.specs.Prelude.{Option, Some, nat_lt, ◌==◌}
use Rattle.std.specs.List.{AllByRecursion, filter, fold, flat_map}
use Rattle.std.proofs.lemmas.Bool.{eqb-true, eqb-false, ltb-true, ltb-false}
use Rattle.ag_model.specs.declared.config.Config.{Config}
use Rattle.ag_model.specs.declared.config.Mode.{Mode}
use Rattle.ag_model.specs.declared.record.Record.{Record}
use Rattle.ag_model.specs.declared.record.Record.TheVariants.{Term}
use Rattle.ag_model.specs.declared.event.Event.{Event}
use Rattle.ag_rules.specs.Replica.{records, term_of_disk}
use Rattle.ag_rules.specs.Group.{Group, opening, opening_replica, opening_replicas, nobody, replica}
use Rattle.ag_rules.specs.Next.{done}
use Rattle.ag_rules.specs.Run.{Moment, moment, moments_from, run}
use Rattle.ag_rules.specs.Script.{IsEvent, IsScript}
use Rattle.ag_rules.specs.TermLog.{groups, primary_of, longer, longest, log_of_primary, term_log}
use Rattle.ag_lists.proofs.Tests.{by_bool, if_has}
use Rattle.ag_lists.proofs.Each.{all_map, all_append}
use Rattle.ag_laws.specs.Prefix.{IsPrefixOf}
use Rattle.ag_laws.specs.Logs.{Setting, Logs}
use Rattle.ag_laws.specs.Disk.{IsOwn}
use Rattle.ag_laws.specs.At.{At}
use Rattle.ag_laws.specs.Good.{Good}
use Rattle.ag_laws.specs.First.{first_setting, first_logs}
use Rattle.ag_laws.specs.Keeps.{Keeps}
use Rattle.ag_laws.proofs.Prefix.{prefix_refl, prefix_trans, longer_prefix}
use Rattle.ag_laws.proofs.Events.{next_keeps}
use Rattle.ag_laws.proofs.Opening.{opening_good}

-- the longest log of a replica in a term, from what is known on
abbrev pub longest_from : ℕ → ℕ → List Record → List Group → List Record
longest_from t n log gs = fold (λ l g. longer l (records (replica g n))) log (filter (λ g. (replica g n).term == t) gs)

-- what one more group adds to the longest log, where its logs are these
one_more : (s : Setting) (logs grown : Logs) (g : Group) (t n : ℕ) (gs : List Group) → Good s grown g → (t ≤ s.now → s.leader t ≡ n) → IsPrefixOf (logs t) (grown t) → (s.leader t ≡ n → (replica g n).term ≢ t → logs t ≡ grown t) → (s.now < t → logs t ≡ grown t)
    → longest_from t n (logs t) (g ∷ gs) ≡ longest_from t n (grown t) gs
one_more s logs grown g t n gs good leads longer_log others future =
    let rest : List Group = filter (λ x. (replica x n).term == t) gs in
    let a : At s grown n (replica g n) = good.each n in
    let past : (replica g n).term ≤ s.now = omega (arith, a.term, a.kept.past) in
    if_has (λ (xs : List Group). fold (λ l x. longer l (records (replica x n))) (logs t) xs ≡ fold (λ l x. longer l (records (replica x n))) (grown t) rest) ((replica g n).term == t) (g ∷ rest) rest
    (λ e.
    let at : (replica g n).term ≡ t = eqb-true (replica g n).term t e in
    let same : term_of_disk (replica g n).kept ≡ t = sym a.term ∙ at in
    let own : IsOwn (grown (term_of_disk (replica g n).kept)) (term_of_disk (replica g n).kept) (replica g n).kept = a.kept.own (ap s.leader same ∙ leads (omega (arith, past, at))) in
    let whole : records (replica g n) ≡ grown t = own.whole ∙ ap grown same in
    ap (λ l. fold (λ l x. longer l (records (replica x n))) l rest) (ap (longer (logs t)) whole ∙ longer_prefix (logs t) (grown t) longer_log))
    (λ f.
    ap (λ l. fold (λ l x. longer l (records (replica x n))) l rest)
    (by_bool (nat_lt s.now t) (λ v. nat_lt s.now t ≡ v → logs t ≡ grown t)
    (λ _ y. future (ltb-true s.now t y))
    (λ _ y. others (leads (omega (arith, ltb-false s.now t y))) (eqb-false (replica g n).term t f))
    refl))

-- what holds by these logs holds by logs that go on, in this term or a later one
abbrev pub IsMonotone : (X : Type 0) → (Logs → ℕ → X → Type 0) → Type 0
IsMonotone X P = (a b : Logs) (low high : ℕ) → ((t : ℕ) → t ≤ low → IsPrefixOf (a t) (b t)) → low ≤ high → (x : X) → P a low x → P b high x

-- what is observed at one event holds by the logs before it
abbrev pub HoldsAt : (X : Type 0) → (Moment → List X) → (Logs → ℕ → X → Type 0) → Type 0
HoldsAt X observed P = (s : Setting) (logs : Logs) (g : Group) (e : Event) → Good s logs g → IsEvent s.config e → AllByRecursion (P logs s.now) (observed (moment g e))

-- the last logs of a run from a group on: they are the longest of their primaries, and what is observed holds by them
record LastLogs (X : Type 0) (observed : Moment → List X) (P : Logs → ℕ → X → Type 0) (s : Setting) (logs : Logs) (g : Group) (es : List Event) : Type 0 where
  last : Setting
  final : Logs
  later : (t : ℕ) → IsPrefixOf (logs t) (final t)
  now : s.now ≤ last.now
  leader : (t : ℕ) → t ≤ s.now → s.leader t ≡ last.leader t
  none : final 0 ≡ []
  longest_is : (t : ℕ) → longest_from t (last.leader t) (logs t) (groups (moments_from g es)) ≡ final t
  primary : (t : ℕ) → s.now < t → t ≤ last.now → primary_of t (groups (moments_from g es)) ≡ Some (last.leader t)
  holds : AllByRecursion (P final last.now) (flat_map observed (moments_from g es))

last_logs : (X : Type 0) (observed : Moment → List X) (P : Logs → ℕ → X → Type 0) → IsMonotone X P → HoldsAt X observed P → (s : Setting) (logs : Logs) (g : Group) (es : List Event) → Good s logs g → IsScript s.config es → LastLogs X observed P s logs g es
last_logs X observed P monotone holds s logs g [] good is = record {
  last = s;
  final = logs;
  later = λ t. prefix_refl (logs t);
  now = omega arith;
  leader = λ t h. refl;
  none = good.are.none;
  longest_is = λ t. refl;
  primary = λ t h q. absurd (omega arith);
  holds = tt;
}
last_logs X observed P monotone holds s logs g (e ∷ es) good is =
    let after : Group = (done g e).after in
    let k : Keeps s logs g after = next_keeps s logs g e good is.0 in
    let r : LastLogs X observed P k.setting k.grown after es = last_logs X observed P monotone holds k.setting k.grown after es k.good (subst (λ (c : Config). IsScript c es) k.later.config is.1) in
    let rest : List Group = groups (moments_from after es) in
    let later : (t : ℕ) → IsPrefixOf (logs t) (r.final t) = λ t. prefix_trans (logs t) (k.grown t) (r.final t) (k.later.longer t) (r.later t) in
    let low : s.now ≤ r.last.now = omega (arith, k.later.now, r.now) in
    record {
      last = r.last;
      final = r.final;
      later = later;
      now = low;
      leader = λ t h. k.later.leader t h ∙ r.leader t (omega (arith, h, k.later.now));
      none = r.none;
      longest_is = λ t.
          let n : ℕ = r.last.leader t in
          one_more s logs logs g t n (after ∷ rest) good (λ h. k.later.leader t h ∙ r.leader t (omega (arith, h, k.later.now))) (prefix_refl (logs t)) (λ _ _. refl) (λ _. refl)
          ∙ one_more k.setting logs k.grown after t n rest k.good (λ h. r.leader t h) (k.later.longer t)
          (λ q p. k.later.others t (λ x. p (ap (λ (m : ℕ). (replica after m).term) (sym q) ∙ x)))
          (λ h. good.are.future t (omega (arith, h, k.later.now)) ∙ sym (k.good.are.future t h))
          ∙ r.longest_is t;
      primary = λ t h q.
          if_has (λ (o : Option ℕ). o ≡ Some (r.last.leader t)) (g.register.term == t) (Some g.register.primary) _
          (λ y. let same : g.register.term ≡ t = eqb-true g.register.term t y in absurd (omega (arith, good.now, same, h)))
          (λ _. if_has (λ (o : Option ℕ). o ≡ Some (r.last.leader t)) (after.register.term == t) (Some after.register.primary) _
          (λ y.
          let same : after.register.term ≡ t = eqb-true after.register.term t y in
          let now : k.setting.now ≡ t = sym k.good.now ∙ same in
          ap Some (k.good.primary ∙ ap k.setting.leader now ∙ r.leader t (omega (arith, now))))
          (λ f.
          let apart : k.setting.now ≢ t = λ x. eqb-false after.register.term t f (k.good.now ∙ x) in
          r.primary t (omega (arith, apart, k.step, h)) q));
      holds = all_append (P r.final r.last.now) (observed (moment g e)) (flat_map observed (moments_from after es))
          (all_map (P logs s.now) (P r.final r.last.now) (monotone logs r.final s.now r.last.now (λ t _. later t) low) (observed (moment g e)) (holds s logs g e good is.0)) r.holds;
    }

term_log_is : (ms : List Moment) (t n : ℕ) (l : List Record) → primary_of t (groups ms) ≡ Some n → longest t n (groups ms) ≡ l → term_log ms t ≡ l
unfolding term_log
term_log_is ms t n l p e = ap (log_of_primary t (groups ms)) p ∙ e

-- what the first group tells
first_primary : (c : Config) (e : Event) (es : List Event) → 0 < length c.modes → primary_of 1 (groups (run c (e ∷ es))) ≡ Some 0
first_primary c e es h =
    let good : Good (first_setting c) first_logs (opening c) = opening_good c h in
    if_has (λ (o : Option ℕ). o ≡ Some 0) ((opening c).register.term == 1) (Some (opening c).register.primary) _ (λ _. ap Some good.primary) (λ f. absurd (eqb-false (opening c).register.term 1 f good.now))

first_term_of : (c : Config) (ms : List Mode) → 0 < length ms → (get_or (opening_replicas c ms) 0 nobody).term ≡ 1
unfolding opening_replica
first_term_of c [] h = absurd (omega arith)
first_term_of c (m ∷ ms) h = refl

first_term : (c : Config) → 0 < length c.modes → (replica (opening c) 0).term ≡ 1
unfolding opening
first_term c h = first_term_of c c.modes h

-- the longest log of a term begins with the opening one
first_longest : (c : Config) (e : Event) (es : List Event) (t n : ℕ) → 0 < length c.modes → (t ≡ 1 → n ≡ 0) → longest t n (groups (run c (e ∷ es))) ≡ longest_from t n (first_logs t) (groups (run c (e ∷ es)))
first_longest c e es t n h z =
    let good : Good (first_setting c) first_logs (opening c) = opening_good c h in
    let more : List Group = (done (opening c) e).after ∷ groups (moments_from (done (opening c) e).after es) in
    by_bool (t == 1) (λ v. (t == 1) ≡ v → longest t n (groups (run c (e ∷ es))) ≡ longest_from t n (first_logs t) (groups (run c (e ∷ es))))
    (λ _ y.
    let one : t ≡ 1 = eqb-true t 1 y in
    let zero_is : 0 ≡ n = sym (z one) in
    one_more (first_setting c) (λ u. []) first_logs (opening c) t n more good (λ _. zero_is) (first_logs t, refl)
    (λ q p. absurd (p (ap (λ (m : ℕ). (replica (opening c) m).term) (sym zero_is) ∙ first_term c h ∙ sym one))) (λ q. sym (good.are.future t q))
    ∙ sym (one_more (first_setting c) first_logs first_logs (opening c) t n more good (λ _. zero_is) (prefix_refl (first_logs t)) (λ _ _. refl) (λ _. refl)))
    (λ _ f. ap (λ l. longest_from t n l (groups (run c (e ∷ es)))) (if_has (λ (l : List Record). [] ≡ l) (t == 1) (Term 1 ∷ []) [] (λ y. absurd (eqb-false t 1 f (eqb-true t 1 y))) (λ _. refl)))
    refl

-- the last logs begin those of the run
final_prefix : (X : Type 0) (observed : Moment → List X) (P : Logs → ℕ → X → Type 0) (c : Config) (e : Event) (es : List Event) → 0 < length c.modes → (r : LastLogs X observed P (first_setting c) first_logs (opening c) (e ∷ es)) → (t : ℕ) → t ≤ r.last.now → IsPrefixOf (r.final t) (term_log (run c (e ∷ es)) t)
final_prefix X observed P c e es h r t high =
    let ms : List Moment = run c (e ∷ es) in
    let first : r.last.leader 1 ≡ 0 = sym (r.leader 1 (omega arith)) in
    by_bool (nat_lt 0 t) (λ v. nat_lt 0 t ≡ v → IsPrefixOf (r.final t) (term_log ms t))
    (λ _ some.
    let same : term_log ms t ≡ r.final t = term_log_is ms t (r.last.leader t) (r.final t)
    (by_bool (nat_lt 1 t) (λ v. nat_lt 1 t ≡ v → primary_of t (groups ms) ≡ Some (r.last.leader t))
    (λ _ y. r.primary t (ltb-true 1 t y) high)
    (λ _ y. let one : 1 ≡ t = omega (arith, ltb-false 1 t y, ltb-true 0 t some) in subst (λ (u : ℕ). primary_of u (groups ms) ≡ Some (r.last.leader u)) one (first_primary c e es h ∙ ap Some (sym first)))
    refl)
    (first_longest c e es t (r.last.leader t) h (λ q. ap r.last.leader q ∙ first) ∙ r.longest_is t) in
    subst (λ (l : List Record). IsPrefixOf (r.final t) l) (sym same) (prefix_refl (r.final t)))
    (λ _ f.
    let zero_is : 0 ≡ t = omega (arith, ltb-false 0 t f) in
    subst (λ (u : ℕ). IsPrefixOf (r.final u) (term_log ms t)) zero_is (subst (λ (l : List Record). IsPrefixOf l (term_log ms t)) (sym r.none) (term_log ms t, refl)))
    refl

-- what holds at each event by the logs before it holds, in a whole run, by the logs of its terms
pub in_run : (X : Type 0) (observed : Moment → List X) (P : Logs → ℕ → X → Type 0) → IsMonotone X P → HoldsAt X observed P → (c : Config) (es : List Event) → 0 < length c.modes → IsScript c es → (now : ℕ) × AllByRecursion (P (term_log (run c es)) now) (flat_map observed (run c es))
in_run X observed P monotone holds c [] h is = (0, tt)
in_run X observed P monotone holds c (e ∷ es) h is =
    let ms : List Moment = run c (e ∷ es) in
    let r : LastLogs X observed P (first_setting c) first_logs (opening c) (e ∷ es) = last_logs X observed P monotone holds (first_setting c) first_logs (opening c) (e ∷ es) (opening_good c h) is in (
      r.last.now,
      all_map (P r.final r.last.now) (P (term_log ms) r.last.now) (monotone r.final (term_log ms) r.last.now r.last.now (final_prefix X observed P c e es h r) (omega arith)) (flat_map observed ms) r.holds,
    )
