-- In each run a safe failover keeps every Commit that was confirmed as synchronous.
use Rattle.std.specs.Prelude.{if◌then◌else◌, ◌==◌, Some, slice_get}
use Rattle.std.proofs.Common.{◌≡◌, ℕ, zero, suc, ◌+◌, ◌-◌, ◌<◌, ◌≤◌, List, [], ◌∷◌, length, take, refl, sym, ap, ◌∙◌, arith, length-take-le}
use Rattle.std.specs.List.{AllByRecursion, filter}
use Rattle.std.proofs.lemmas.Bool.{eqb-true}
use Rattle.ag_model.specs.declared.record.Record.{Record}
use Rattle.ag_model.specs.declared.record.Record.TheVariants.{Term}
use Rattle.ag_model.specs.declared.config.TermStart.{TermStart}
use Rattle.ag_model.specs.declared.config.Config.{Config}
use Rattle.ag_model.specs.declared.event.Event.{Event}
use Rattle.ag_model.specs.Starts.{term_starts}
use Rattle.ag_rules.specs.Group.{opening}
use Rattle.ag_rules.specs.Run.{Moment, run}
use Rattle.ag_rules.specs.Script.{IsScript}
use Rattle.ag_rules.specs.TermLog.{term_log}
use Rattle.ag_rules.specs.KeptLaw.{confirmed_in, to_keep, last_confirmed, starts_at, IsKept, KeptIn, KeptLaw}
use Rattle.ag_lists.proofs.Tests.{by_bool}
use Rattle.ag_lists.proofs.Each.{all_map}
use Rattle.ag_laws.specs.Logs.{Logs}
use Rattle.ag_law_kept.proofs.Known.{get_prefix, get_within}
use Rattle.ag_laws.proofs.Grow.{take_is_prefix}
use Rattle.ag_law_kept.proofs.Logged.{term_log_is}
use Rattle.ag_law_kept.proofs.Runs.{Reached, Ended, opened, run_on}
use Rattle.ag_law_kept.proofs.Syncs.{only_sync}
use Rattle.ag_law_kept.proofs.Chains.{KeptTo, InChain, chain, LastIn, last_in, commit_some, starts_are}

none_kept : {X Y : Type 0} (P : X → Y → Type 0) (xs : List X) → AllByRecursion (λ x. AllByRecursion (P x) []) xs
none_kept P [] = tt
none_kept P (x ∷ xs) = (tt, none_kept P xs)

-- the record before the end of a beginning
last_of_take : (f : ℕ) (a b : List Record) → 0 < f → f ≤ length a → f ≤ length b → take f a ≡ take f b → slice_get a (f - 1) ≡ slice_get b (f - 1)
last_of_take f a b some la lb same =
    sym (get_prefix (f - 1) (take f a) a (omega (arith, some, length-take-le f a la)) (take_is_prefix f a))
    ∙ ap (λ l. slice_get l (f - 1)) same
    ∙ get_prefix (f - 1) (take f b) b (omega (arith, some, length-take-le f b lb)) (take_is_prefix f b)

-- where a term's own record stands
pub record IsStart (t : ℕ) (log : List Record) (s : TermStart) : Type 0 where
  pub some : 0 < s.lsn
  pub is : slice_get log (s.lsn - 1) ≡ Some (Term t)

pub starts_passing : (t : ℕ) (log : List Record) (ss : List TermStart) → AllByRecursion (λ (s : TermStart). (0 < s.lsn) × (slice_get log (s.lsn - (0 + 1)) ≡ Some (Term s.term))) ss → AllByRecursion (IsStart t log) (filter (λ s. s.term == t) ss)
starts_passing t log [] p = tt
starts_passing t log (s ∷ ss) p =
    by_bool (s.term == t) (λ v. (s.term == t) ≡ v → AllByRecursion (IsStart t log) (if v then s ∷ filter (λ x. x.term == t) ss else filter (λ x. x.term == t) ss))
    (λ _ e. (record { some = p.0.0; is = p.0.1 ∙ ap (λ u. Some (Term u)) (eqb-true s.term t e) }, starts_passing t log ss p.1))
    (λ _ _. starts_passing t log ss p.1)
    refl

kept_in : (c : Config) (ms : List Moment) → Ended c ms → (t : ℕ) → KeptIn ms t
kept_in c ms e zero = none_kept (IsKept ms zero) (starts_at zero (term_log ms zero))
kept_in c ms e (suc u) =
    let t : ℕ = suc u in
    let r : Reached c ms e.last = e.reached in
    let logs : Logs = r.logs in
    let now : ℕ = e.last.register.term in
    let same_now : now ≡ r.setting.now = r.good.now in
    let told : (v : ℕ) → 0 < v → v ≤ now → term_log ms v ≡ logs v = λ v some low. term_log_is r.setting r.logs ms v e.told some (omega (arith, low, same_now)) in
    let ins : AllByRecursion (InChain r.past r.logs e.last (confirmed_in ms) t) (to_keep ms t) = chain r.past ms r.logs e.last (only_sync r.past ms r.logs e.last r.holds) r.safe r.remembers.ahead t in
    all_map (IsStart t (term_log ms t)) (λ s. AllByRecursion (IsKept ms t s) (to_keep ms t))
    (λ s start. all_map (InChain r.past r.logs e.last (confirmed_in ms) t) (IsKept ms t s)
    (λ d p.
    let here : term_log ms t ≡ logs t = told t (omega arith) p.reached in
    let at : slice_get (logs t) (s.lsn - 1) ≡ Some (Term t) = ap (λ l. slice_get l (s.lsn - 1)) (sym here) ∙ start.is in
    let k : KeptTo logs t d = p.kept (omega (arith, get_within (s.lsn - 1) (logs t) (Term t) at)) in
    let commit : (x : Record) × (d.commit ≡ Some x) = commit_some logs d p.is.some p.is.within p.is.commit in
    let last : LastIn ms t d = last_in ms t d commit.0 p.found p.below commit.1 in
    let old : take d.lsn (logs d.term) ≡ take d.lsn (logs t) = k.same d.term (omega arith) (omega (arith, p.below)) in
    record {
      below = omega (arith, k.before (s.lsn - 1) at, start.some);
      stands = ap (λ l. slice_get l (d.lsn - 1)) here ∙ sym (last_of_take d.lsn (logs d.term) (logs t) p.is.some p.is.within k.long old) ∙ p.is.commit;
      same = ap (λ l. take d.lsn l) here ∙ sym (k.same (last_confirmed ms t d) last.low (omega (arith, last.high))) ∙ ap (λ l. take d.lsn l) (sym (told (last_confirmed ms t d) (omega (arith, p.is.term, last.low)) (omega (arith, last.high, p.reached))));
    }) (to_keep ms t) ins)
    (starts_at t (term_log ms t)) (starts_passing t (term_log ms t) (term_starts (term_log ms t)) (starts_are 0 (term_log ms t)))

none_to_keep : (t : ℕ) → KeptIn [] t
none_to_keep zero = none_kept (IsKept [] zero) (starts_at zero (term_log [] zero))
none_to_keep (suc t) = none_kept (IsKept [] (suc t)) (starts_at (suc t) (term_log [] (suc t)))

pub commits_are_kept : (c : Config) (es : List Event) → 0 < length c.modes → IsScript c es → KeptLaw (run c es)
commits_are_kept c [] h is = none_to_keep
commits_are_kept c (e ∷ es) h is = kept_in c (run c (e ∷ es)) (run_on c [] (opening c) e es is (opened c h))
