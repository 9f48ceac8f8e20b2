-- Groups that scripts reach.
use Rattle.std.specs.Prelude.{◌≡◌, List, [], ◌∷◌, ◌++◌, refl}
use Rattle.ag_model.specs.declared.config.Config.{Config}
use Rattle.ag_model.specs.declared.event.Event.{Event}
use Rattle.ag_rules.specs.Group.{Group, opening}
use Rattle.ag_rules.specs.Allowed.{next}
use Rattle.ag_rules.specs.Script.{IsScript}

-- the group after events
abbrev pub after_events : Group → List Event → Group
after_events g [] = g
after_events g (e ∷ es) = after_events (next g e) es

-- the same with one event more
pub after_more : (g : Group) (es : List Event) (e : Event) → after_events g (es ++ e ∷ []) ≡ next (after_events g es) e
after_more g [] e = refl
after_more g (d ∷ es) e = after_more (next g d) es e

-- the group is the one after some script from the opening on
abbrev pub IsReached : Config → Group → Type 0
IsReached c g = (es : List Event) × IsScript c es × (g ≡ after_events (opening c) es)
