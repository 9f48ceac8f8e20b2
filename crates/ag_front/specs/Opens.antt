-- What a front begins with.
use Rattle.std.specs.Prelude.{◌≡◌, ℕ, ◌+◌, ◌<◌, ◌≤◌, List, [], ◌∷◌, ◌++◌, map, length, slice_index}
use mathlib.Core.Option.{some}
use lib.ListN.{get_elem?}
use Rattle.ag_model.specs.declared.record.Log.{Log}
use Rattle.ag_model.specs.Prefixes.{IsBlockEnd}
use Rattle.ag_model.specs.Stripes.{Standing}
use Rattle.ag_front.specs.declared.rule.Slot.{Slot}
use Rattle.ag_front.specs.declared.rule.Slot.TheVariants.{Stripe, History}
use Rattle.ag_front.specs.Rule.{StandsAt}

-- the slots of a new front
abbrev pub all_slots : {T : Type 0} → List T → Log → List (Slot T)
all_slots ts log = map Stripe ts ++ History log ∷ []

-- a new front's words: the published LSNs, and no take yet
pub record OpeningWords (words published : List ℕ) : Type 0 where
  pub wide : length words ≡ 33
  pub first : (k : ℕ) → k < 16 → slice_index words k ≡ slice_index published k
  pub turns : (k : ℕ) → k < 17 → slice_index words (16 + k) ≡ 0

module _ {T : Type 0} (standing : T → Standing) where
  -- the number of data pages of the first of these stripes
  abbrev pub pages_of : List T → ℕ
  pages_of [] = 0
  pages_of (t ∷ ts) = (standing t).pages

  -- sixteen stripes in order, of one number of data pages, that stand for the log and open at block ends of it
  pub record AreStripes (log : Log) (ts : List T) (count : ℕ) : Type 0 where
    pub many : length ts ≡ 16
    pub each : (k : ℕ) (t : T) → get_elem? ts k ≡ some t → StandsAt standing count log k (standing t).applied t
    pub ends : (k : ℕ) (t : T) → get_elem? ts k ≡ some t → IsBlockEnd log (standing t).opening

  -- the opening LSNs of the first n stripes, none above the applied one
  abbrev pub OpeningsOf : List T → ℕ → List ℕ → Type 0
  OpeningsOf ts n xs = (k : ℕ) → k < n → (t : T) → get_elem? ts k ≡ some t → (slice_index xs k ≡ (standing t).opening) × ((standing t).opening ≤ (standing t).applied)

  -- their applied LSNs
  abbrev pub AppliedOf : List T → ℕ → List ℕ → Type 0
  AppliedOf ts n xs = (k : ℕ) → k < n → (t : T) → get_elem? ts k ≡ some t → slice_index xs k ≡ (standing t).applied
