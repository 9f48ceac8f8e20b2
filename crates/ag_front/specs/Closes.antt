-- What a front that is closed gives back.
use Rattle.std.specs.Prelude.{◌≡◌, ℕ, ◌<◌, ◌≤◌, List, length, slice_index}
use mathlib.Core.Option.{some}
use lib.ListN.{get_elem?}
use Rattle.ag_model.specs.Stripes.{Standing}
use Rattle.ag_front.specs.declared.view.View.{View}
use Rattle.ag_front.specs.declared.rule.Slot.{Slot}
use Rattle.ag_front.specs.declared.rule.Slot.TheVariants.{Stripe, History}
use Rattle.ag_front.specs.Rule.{StandsAt}

module _ {T : Type 0} (standing : T → Standing) where
  -- stripe k stands for the log that the view has seen, at or above the view's floor
  pub record IsStripe (v : View) (k : ℕ) (t : T) : Type 0 where
    pub stands : StandsAt standing v.pages v.seen k (standing t).applied t
    pub floor : slice_index v.floor k ≤ (standing t).applied

  -- all slots are at home, and the log is the one that the view has seen
  pub record AllHome (v : View) (xs : List (Slot T)) : Type 0 where
    pub stripes : (k : ℕ) → k < 16 → (t : T) × (get_elem? xs k ≡ some (Stripe t)) × IsStripe v k t
    pub log : get_elem? xs 16 ≡ some (History v.seen)

  -- the first n stripes in order
  pub record ClosedStripes (v : View) (ts : List T) (n : ℕ) : Type 0 where
    pub many : length ts ≡ n
    pub each : (k : ℕ) (t : T) → get_elem? ts k ≡ some t → IsStripe v k t
