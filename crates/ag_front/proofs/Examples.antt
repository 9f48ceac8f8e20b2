-- Worked examples of the front's definitions, by computation.
use Rattle.std.proofs.Common.{◌≡◌, [], ◌∷◌, refl}
use Rattle.ag_model.specs.Stripes.{opening_log}
use Rattle.ag_front.specs.Applies.{stripe_of_key}
use Rattle.ag_front.specs.Rule.{least, empty_log}
use Rattle.ag_front.specs.Slots.{counted_up}
use Rattle.ag_front.specs.Steps.{longer, maxes}

-- the front is the least of the published LSNs
front_of_three : least (3 ∷ 1 ∷ 2 ∷ []) ≡ 1
front_of_three = refl

-- two passes are merged number by number
merged_numbers : maxes (3 ∷ 1 ∷ []) (2 ∷ 5 ∷ []) ≡ 3 ∷ 5 ∷ []
merged_numbers = refl

-- the longer log is kept
merged_logs : longer empty_log opening_log ≡ opening_log
merged_logs = refl

counted_once : counted_up (0 ∷ 4 ∷ []) 1 ≡ 0 ∷ 5 ∷ []
counted_once = refl

-- of 16 data pages key 21 has page 21, which is the one of stripe 5
stripe_of_21 : stripe_of_key 16 21 ≡ 5
stripe_of_21 = refl
