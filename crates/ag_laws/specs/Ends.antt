-- The block ends of a log, and how far its stripes stand.
use Rattle.std.specs.Prelude.{ℕ, ◌≤◌, List, [], ◌∷◌}
use Rattle.std.specs.List.{AllByRecursion}
use Rattle.ag_rules.specs.Replica.{Stripe}

-- the block ends never fall from start on, and none is past the end
abbrev pub EndsIn : ℕ → List ℕ → ℕ → Type 0
EndsIn start [] end = start ≤ end
EndsIn start (e ∷ es) end = (start ≤ e) × EndsIn e es end

-- a stripe of a log that ends there
pub record IsStripe (end : ℕ) (s : Stripe) : Type 0 where
  pub published : s.published ≤ s.applied
  pub applied : s.applied ≤ end

-- the stripes of a log that ends there
abbrev pub AreStripes : ℕ → List Stripe → Type 0
AreStripes end ss = AllByRecursion (IsStripe end) ss
