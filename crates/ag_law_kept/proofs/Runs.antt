-- From events to runs.
use Rattle.std.specs.Prelude.{◌==◌, Option, Some, None, ◌||◌}
use Rattle.std.proofs.Common.{◌≡◌, ℕ, ◌<◌, List, [], ◌∷◌, ◌++◌, length, refl, sym, ap, ◌∙◌, subst, arith, append_assoc, append-nil}
use Rattle.std.specs.List.{fold, list_any}
use Rattle.std.proofs.lemmas.Bool.{eqb-true, eqb-false}
use Rattle.std.proofs.lemmas.List.Folds.{list_any-append}
use Rattle.std.proofs.Math.Bool.{or-false}
use Rattle.std.proofs.lemmas.List.Concat.{flat_map-append}
use Rattle.ag_model.specs.declared.record.Record.TheVariants.{Term}
use Rattle.ag_model.specs.declared.config.Config.{Config}
use Rattle.ag_model.specs.declared.event.Event.{Event}
use Rattle.ag_rules.specs.Replica.{records}
use Rattle.ag_rules.specs.Group.{Group, replica, opening}
use Rattle.ag_rules.specs.Next.{done}
use Rattle.ag_rules.specs.Run.{Moment, moment, moments_from}
use Rattle.ag_rules.specs.Script.{IsEvent, IsScript}
use Rattle.ag_rules.specs.TermLog.{groups, longer, longest}
use Rattle.ag_rules.specs.KeptLaw.{Confirmed, is_safe_into}
use Rattle.ag_lists.proofs.Tests.{if_has}
use Rattle.ag_laws.specs.Logs.{Setting, Logs}
use Rattle.ag_laws.specs.Good.{Good}
use Rattle.ag_laws.specs.First.{first_setting, first_logs}
use Rattle.ag_laws.specs.Keeps.{Keeps}
use Rattle.ag_laws.proofs.Events.{next_keeps}
use Rattle.ag_laws.proofs.Opening.{opening_good}
use Rattle.ag_law_kept.specs.Past.{Past}
use Rattle.ag_law_kept.specs.Holds.{Holds}
use Rattle.ag_law_kept.specs.Laws.{AtEach}
use Rattle.ag_law_kept.specs.Local.{all_confirmed_at, all_confirmed_in}
use Rattle.ag_law_kept.proofs.Nexts.{Remembers, Next}
use Rattle.ag_law_kept.proofs.Steps.{next_event}
use Rattle.ag_law_kept.proofs.Opens.{first_past, opening_remembers, opening_holds, IsThere, there_first}
use Rattle.ag_law_kept.proofs.Logged.{Logged, logged_next, logged_again}

-- a run up to a group: what is remembered tells its confirmed commits and its safe failovers
pub record Reached (c : Config) (ms : List Moment) (g : Group) : Type 0 where
  pub past : Past
  pub setting : Setting
  pub logs : Logs
  pub config : setting.config ≡ c
  pub good : Good setting logs g
  pub remembers : Remembers past setting g
  pub holds : Holds past (all_confirmed_in ms) logs g
  pub safe : (t : ℕ) → past.safe t ≡ list_any (is_safe_into t) ms
  pub logged : Logged setting logs (groups ms ++ g ∷ [])

-- the groups of one more event
groups_push : (ms : List Moment) (g : Group) (e : Event) → (groups ms ++ g ∷ []) ++ (done g e).after ∷ [] ≡ groups (ms ++ moment g e ∷ [])
groups_push ms g e = append_assoc (groups ms) (g ∷ []) ((done g e).after ∷ []) ∙ sym (flat_map-append (λ (m : Moment). m.before ∷ m.after ∷ []) ms (moment g e ∷ []))

-- what one more event comes to, with the logs as its groups tell them
pub record Stepped (c : Config) (ms : List Moment) (g : Group) (e : Event) : Type 0 where
  pub reached : Reached c (ms ++ moment g e ∷ []) (done g e).after
  pub told : Logged reached.setting reached.logs (groups (ms ++ moment g e ∷ []))

pub step : (c : Config) (ms : List Moment) (g : Group) (e : Event) → IsEvent c e → Reached c ms g → Stepped c ms g e
step c ms g e is r =
    let after : Group = (done g e).after in
    let is2 : IsEvent r.setting.config e = subst (λ (x : Config). IsEvent x e) (sym r.config) is in
    let k : Keeps r.setting r.logs g after = next_keeps r.setting r.logs g e r.good is2 in
    let n : Next r.past (all_confirmed_in ms ++ all_confirmed_at g e (done g e).answer) k.setting k.grown g after = next_event r.past (all_confirmed_in ms) r.setting r.logs g r.good r.remembers r.holds e is2 k in
    let told : Logged k.setting k.grown (groups (ms ++ moment g e ∷ [])) = subst (Logged k.setting k.grown) (groups_push ms g e) (logged_next r.setting k.setting r.logs k.grown (groups ms ++ g ∷ []) after r.logged r.good.are.future k.good k.later k.step) in
    let same : all_confirmed_in ms ++ all_confirmed_at g e (done g e).answer ≡ all_confirmed_in (ms ++ moment g e ∷ []) =
    ap (λ l. all_confirmed_in ms ++ l) (sym (append-nil (all_confirmed_at g e (done g e).answer))) ∙ sym (flat_map-append (λ (m : Moment). all_confirmed_at m.before m.event m.answer) ms (moment g e ∷ [])) in
    record {
      reached = record {
        past = n.now;
        setting = k.setting;
        logs = k.grown;
        config = sym k.later.config ∙ r.config;
        good = k.good;
        remembers = n.remembers;
        holds = subst (λ (cs : List Confirmed). Holds n.now cs k.grown after) same n.holds;
        safe = λ t. n.safe t ∙ ap (λ b. b || is_safe_into t (moment g e)) (r.safe t) ∙ ap (λ b. list_any (is_safe_into t) ms || b) (sym (or-false (is_safe_into t (moment g e)))) ∙ sym (list_any-append (is_safe_into t) ms (moment g e ∷ []));
        logged = logged_again k.setting k.grown (groups (ms ++ moment g e ∷ [])) after told k.good;
      };
      told = told;
    }

pub opened : (c : Config) → 0 < length c.modes → Reached c [] (opening c)
opened c some =
    let good : Good (first_setting c) first_logs (opening c) = opening_good c some in
    record {
      past = first_past c;
      setting = first_setting c;
      logs = first_logs;
      config = refl;
      good = good;
      remembers = opening_remembers c;
      holds = opening_holds c some;
      safe = λ t. refl;
      logged = record {
        primary = λ t h low.
            let one : t ≡ 1 = omega (arith, h, low) in
            if_has (λ (o : Option ℕ). o ≡ Some 0) ((opening c).register.term == t) (Some (opening c).register.primary) None (λ _. ap Some good.primary) (λ f. absurd (eqb-false (opening c).register.term t f (good.now ∙ sym one)));
        none = λ t h. if_has (λ (o : Option ℕ). o ≡ None) ((opening c).register.term == t) (Some (opening c).register.primary) None (λ e. absurd (omega (arith, eqb-true (opening c).register.term t e, good.now, h))) (λ _. refl);
        logs_are = λ t h low.
            let one : t ≡ 1 = omega (arith, h, low) in
            subst (λ (u : ℕ). longest u 0 (opening c ∷ []) ≡ first_logs u) (sym one) first_log;
        later = λ t n h.
            if_has (λ (xs : List Group). fold (λ l x. longer l (records (replica x n))) [] xs ≡ []) ((replica (opening c) n).term == t) (opening c ∷ []) []
            (λ e. absurd (omega (arith, eqb-true (replica (opening c) n).term t e, (good.each n).term, (good.each n).kept.past, h))) (λ _. refl);
      };
    }
  where
    first_log : longest 1 0 (opening c ∷ []) ≡ first_logs 1
    first_log =
        let r : IsThere (replica (opening c) 0) = there_first c some in
        if_has (λ (xs : List Group). fold (λ l x. longer l (records (replica x 0))) [] xs ≡ Term 1 ∷ []) ((replica (opening c) 0).term == 1) (opening c ∷ []) []
        (λ _. ap (longer []) r.log) (λ f. absurd (eqb-false (replica (opening c) 0).term 1 f r.term))

-- the end of a run from a group on, whose moments are good in the sense that each reached group has
pub record Ended (c : Config) (ms : List Moment) : Type 0 where
  pub last : Group
  pub reached : Reached c ms last
  pub told : Logged reached.setting reached.logs (groups ms)

pub run_on : (c : Config) (ms : List Moment) (g : Group) (e : Event) (es : List Event) → IsScript c (e ∷ es) → Reached c ms g → Ended c (ms ++ moments_from g (e ∷ es))
run_on c ms g e [] is r =
    let x : Stepped c ms g e = step c ms g e is.0 r in
    record { last = (done g e).after; reached = x.reached; told = x.told }
run_on c ms g e (f ∷ es) is r =
    let x : Stepped c ms g e = step c ms g e is.0 r in
    subst (Ended c) (append_assoc ms (moment g e ∷ []) (moments_from (done g e).after (f ∷ es))) (run_on c (ms ++ moment g e ∷ []) (done g e).after f es is.1 x.reached)

-- what each reached group has, the groups of a run have
pub at_each : (c : Config) (P : Group → Type 0) → ((ms : List Moment) (g : Group) → Reached c ms g → P g) → (ms : List Moment) (g : Group) (es : List Event) → IsScript c es → Reached c ms g → AtEach P (moments_from g es)
at_each c P f ms g [] is r = tt
at_each c P f ms g (e ∷ es) is r =
    let x : Stepped c ms g e = step c ms g e is.0 r in
    ((f ms g r, f (ms ++ moment g e ∷ []) (done g e).after x.reached), at_each c P f (ms ++ moment g e ∷ []) (done g e).after es is.1 x.reached)
