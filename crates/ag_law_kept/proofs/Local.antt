-- In each run every confirmed Commit stays, over safe failovers.
use Rattle.std.specs.Prelude.{slice_get, Some}
use Rattle.std.proofs.Common.{◌≡◌, ℕ, ◌+◌, ◌-◌, ◌<◌, ◌≤◌, List, [], ◌∷◌, length, take, sym, ap, ◌∙◌, subst, arith}
use Rattle.ag_model.specs.declared.record.Record.TheVariants.{Term}
use Rattle.ag_model.specs.declared.config.Config.{Config}
use Rattle.ag_model.specs.declared.event.Event.{Event}
use Rattle.ag_model.specs.Starts.{term_starts}
use Rattle.ag_rules.specs.Group.{opening}
use Rattle.ag_rules.specs.Run.{Moment, run}
use Rattle.ag_rules.specs.Script.{IsScript}
use Rattle.ag_rules.specs.TermLog.{term_log}
use Rattle.ag_rules.specs.KeptLaw.{starts_at}
use Rattle.ag_lists.proofs.Each.{all_map}
use Rattle.ag_laws.specs.Logs.{Logs}
use Rattle.ag_law_kept.specs.Holds.{IsConfirmed}
use Rattle.ag_law_kept.specs.Local.{all_confirmed_in, StandsOver, Stays, ConfirmedLaw}
use Rattle.ag_law_kept.proofs.Known.{get_within}
use Rattle.ag_law_kept.proofs.Logged.{term_log_is}
use Rattle.ag_law_kept.proofs.Runs.{Reached, Ended, opened, run_on}
use Rattle.ag_law_kept.proofs.Chains.{KeptTo, InChain, Found, chain_from, all_chained, starts_are}
use Rattle.ag_law_kept.proofs.Kept.{IsStart, starts_passing}

stays : (c : Config) (ms : List Moment) → Ended c ms → ConfirmedLaw ms
stays c ms e =
    let r : Reached c ms e.last = e.reached in
    let logs : Logs = r.logs in
    let now : ℕ = e.last.register.term in
    let same_now : now ≡ r.setting.now = r.good.now in
    let told : (v : ℕ) → 0 < v → v ≤ now → term_log ms v ≡ logs v = λ v some low. term_log_is r.setting r.logs ms v e.told some (omega (arith, low, same_now)) in
    all_map (λ d. Found (all_confirmed_in ms) d × IsConfirmed r.past logs e.last.register d) (Stays ms)
    (λ d p.
    let own : term_log ms d.term ≡ logs d.term = told d.term p.1.term p.1.reached in
    record {
      within = (p.1.some, omega (arith, p.1.within, ap length own));
      commit = ap (λ l. slice_get l (d.lsn - 1)) own ∙ p.1.commit;
      over = λ t high all.
          let k : ℕ = t - (d.term + 1) in
          let at : d.term + 1 + k ≡ t = omega (arith, high) in
          let i : InChain r.past logs e.last (all_confirmed_in ms) t d = subst (λ (u : ℕ). InChain r.past logs e.last (all_confirmed_in ms) u d) at (chain_from r.past (all_confirmed_in ms) ms logs e.last r.holds r.safe r.remembers.ahead d p k (λ u low up. all u low (omega (arith, up, at)))) in
          let here : term_log ms t ≡ logs t = told t (omega (arith, high)) i.reached in
          all_map (IsStart t (term_log ms t)) (StandsOver ms t d)
          (λ s start.
          let is : slice_get (logs t) (s.lsn - 1) ≡ Some (Term t) = ap (λ l. slice_get l (s.lsn - 1)) (sym here) ∙ start.is in
          let kept : KeptTo logs t d = i.kept (omega (arith, get_within (s.lsn - 1) (logs t) (Term t) is)) in
          record {
            below = omega (arith, kept.before (s.lsn - 1) is, start.some);
            same = ap (λ l. take d.lsn l) here ∙ sym (kept.same d.term (omega arith) (omega (arith, high))) ∙ ap (λ l. take d.lsn l) (sym own);
          }) (starts_at t (term_log ms t)) (starts_passing t (term_log ms t) (term_starts (term_log ms t)) (starts_are 0 (term_log ms t)));
    }) (all_confirmed_in ms) (all_chained r.past (all_confirmed_in ms) ms logs e.last r.holds r.safe r.remembers.ahead)

pub confirmed_stay : (c : Config) (es : List Event) → 0 < length c.modes → IsScript c es → ConfirmedLaw (run c es)
confirmed_stay c [] h is = tt
confirmed_stay c (e ∷ es) h is = stays c (run c (e ∷ es)) (run_on c [] (opening c) e es is (opened c h))
