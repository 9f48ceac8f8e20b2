-- Groups that scripts reach, and their logs.
use Rattle.std.proofs.Common.{◌≡◌, ◌<◌, List, [], ◌∷◌, ◌++◌, length, refl, sym, ap, ◌∙◌, subst, arith}
use Rattle.std.specs.List.{AllByRecursion}
use Rattle.std.proofs.lemmas.List.Concat.{flat_map-cons}
use Rattle.ag_model.specs.declared.config.Config.{Config}
use Rattle.ag_model.specs.declared.event.Event.{Event}
use Rattle.ag_model.specs.declared.event.Event.TheVariants.{Crash}
use Rattle.ag_model.specs.declared.event.Suffix.TheVariants.{Whole}
use Rattle.ag_model.specs.declared.event.Who.TheVariants.{Letter}
use Rattle.ag_rules.specs.Group.{Group, opening}
use Rattle.ag_rules.specs.Allowed.{next}
use Rattle.ag_rules.specs.Run.{Moment, moment, moments_from}
use Rattle.ag_rules.specs.Script.{IsConfig, IsEvent, IsScript}
use Rattle.ag_rules.specs.TermLog.{groups}
use Rattle.ag_law_logs.specs.ProperRecords.{HardenedAreProper}
use Rattle.ag_law_logs.specs.Reached.{after_events, after_more, IsReached}
use Rattle.ag_law_logs.proofs.Whole.{hardened_proper}

-- what holds of the groups of a run whose first moment is this one
split : (P : Group → Type 0) (m : Moment) (ms : List Moment) → AllByRecursion P (groups (m ∷ ms)) → P m.before × (P m.after × AllByRecursion P (groups ms))
split P m ms all = subst (λ (gs : List Group). AllByRecursion P gs) (flat_map-cons (λ (x : Moment). x.before ∷ x.after ∷ []) m ms) all

-- what holds of each group of a run holds of the one before its last event
before_last : (P : Group → Type 0) (g : Group) (es : List Event) (e : Event) → AllByRecursion P (groups (moments_from g (es ++ e ∷ []))) → P (after_events g es)
before_last P g [] e all = (split P (moment g e) [] all).0
before_last P g (d ∷ ds) e all = before_last P (next g d) ds e (split P (moment g d) (moments_from (next g d) (ds ++ e ∷ [])) all).1.1

-- a script with one event more
script_more : (c : Config) (es : List Event) (e : Event) → IsScript c es → IsEvent c e → IsScript c (es ++ e ∷ [])
script_more c [] e all one = (one, tt)
script_more c (d ∷ ds) e all one = (all.0, script_more c ds e all.1 one)

pub reached_opening : (c : Config) → IsReached c (opening c)
reached_opening c = ([], tt, refl)

pub reached_next : (c : Config) (g : Group) (e : Event) → IsReached c g → IsEvent c e → IsReached c (next g e)
reached_next c g e r one = (r.0 ++ e ∷ [], script_more c r.0 e r.1 one, ap (λ (x : Group). next x e) r.2 ∙ sym (after_more (opening c) r.0 e))

pub reached_proper : (c : Config) (g : Group) → IsConfig c → IsReached c g → HardenedAreProper c.pages g
reached_proper c g config r =
    let e : Event = Crash (Letter 0) Whole in
    let one : 0 < length c.modes = omega (arith, config.replicas.0) in
    subst (λ (x : Group). HardenedAreProper c.pages x) (sym r.2)
    (before_last (HardenedAreProper c.pages) (opening c) r.0 e (hardened_proper c (r.0 ++ e ∷ []) config (script_more c r.0 e r.1 one)))
