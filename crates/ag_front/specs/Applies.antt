-- What the calls that take a stripe need and give.
use Rattle.std.specs.Prelude.{◌≡◌, ℕ, ◌+◌, ◌<◌, ◌≤◌, [], length, slice_index, slice_set}
use Rattle.ag_model.specs.declared.message.Block.{Block}
use Rattle.ag_model.specs.declared.record.Log.{Log}
use Rattle.ag_model.specs.declared.value.PageValue.{PageValue}
use Rattle.ag_model.specs.declared.value.Row.{Row}
use Rattle.ag_model.specs.declared.value.TooOld.{TooOld}
use Rattle.ag_model.specs.Page.{value}
use Rattle.ag_model.specs.Prefixes.{end_of, IsPrefix, HasBlock}
use Rattle.ag_model.specs.Proper.{IsProper}
use Rattle.ag_model.specs.Rows.{page_of, stripe_of, rows}
use Rattle.ag_model.specs.Stripes.{Standing}
use Rattle.ag_front.specs.declared.fault.FrontReadFault.{FrontReadFault}
use Rattle.ag_front.specs.declared.fault.FrontReadFault.TheVariants.{Busy, TooOld as IsOld}
use Rattle.ag_front.specs.declared.view.View.{View}
use Rattle.ag_front.specs.Rule.{IsSound, StandsAt}
use Rattle.ag_front.specs.Slots.{counted_up, IsBusy}
use Rattle.ag_front.specs.Steps.{Hold}

module _ {T : Type 0} (standing : T → Standing) where
  -- stripe k of a front can be brought through the block: it stands for the log, in which the block stands, and it has
  -- reached the block's start
  pub record CanBring (seen : Log) (count k : ℕ) (t : T) (block : Block) : Type 0 where
    pub proper : IsProper count seen
    pub stands : StandsAt standing count seen k (standing t).applied t
    pub stands_in : HasBlock seen block
    pub reached : block.first ≤ (standing t).applied + 1

  -- it was brought through the block
  pub record IsBrought (seen : Log) (count k : ℕ) (t t' : T) (block : Block) : Type 0 where
    pub stands : StandsAt standing count seen k (standing t').applied t'
    pub further : (standing t).applied ≤ (standing t').applied
    pub reached : block.first + length block.records ≤ (standing t').applied + 1

module _ {T : Type 0} where
  -- a call took stripe k and gave it back applied up to n, and the pass holds nothing
  pub record StripeVisited (k n : ℕ) (m m' : Hold T) : Type 0 where
    pub free : (m'.1 ≡ []) × (m'.0.hand ≡ 0)
    pub more : IsPrefix m.0.seen m'.0.seen
    pub sound : IsSound m'.0
    pub done : m'.0.done ≡ slice_set m.0.done k n
    pub takes : m'.0.takes ≡ counted_up m.0.takes k
    pub turn : m'.0.turn ≡ slice_set m.0.turn k (slice_index m'.0.turn k)
    pub floor : m'.0.floor ≡ m.0.floor
    pub loads : m'.0.loads ≡ m.0.loads
    pub olds : m'.0.olds ≡ m.0.olds
    pub author : m'.0.author ≡ m.0.author
    pub parts : m'.0.parts ≡ m.0.parts
    pub pages : m'.0.pages ≡ m.0.pages

-- the stripe of a key
abbrev pub stripe_of_key : ℕ → ℕ → ℕ
stripe_of_key pages key = stripe_of (page_of pages key)

-- the value of the key's page where its stripe is applied, as far as the view knows
abbrev pub known_value : View → ℕ → PageValue
known_value w key = value w.pages w.seen.records (slice_index w.done (stripe_of_key w.pages key)) (page_of w.pages key)

-- the row at an LSN that the log reaches is that after so many records of it, and no Trim is above it
pub record IsRowAt (w : View) (key at : ℕ) (row : Row) : Type 0 where
  pub reached : at ≤ end_of w.seen
  pub fresh : (known_value w key).horizon ≤ at
  pub row_there : row ≡ rows w.seen.records at key

-- the LSN is below the horizon of the key's page
pub record IsTooOld (w : View) (key at : ℕ) (e : TooOld) : Type 0 where
  pub below : at < (known_value w key).horizon
  pub told : e ≡ record { snapshot = at; horizon = (known_value w key).horizon }

module _ {T : Type 0} where
  -- why a read at an LSN gives no row: the stripe wasn't taken, or it was and the LSN is too old
  abbrev pub IsReadFault : ℕ → ℕ → Hold T → Hold T → FrontReadFault → Type 0
  IsReadFault key at m m' Busy = IsBusy (stripe_of_key m.0.pages key) m m'
  IsReadFault key at m m' (IsOld e) =
      IsTooOld m'.0 key at e × StripeVisited (stripe_of_key m.0.pages key) (slice_index m'.0.done (stripe_of_key m.0.pages key)) m m'

  -- a call read a row of stripe k at a front that it loaded, and the pass holds nothing
  pub record RowVisited (k : ℕ) (m m' : Hold T) : Type 0 where
    pub free : (m'.1 ≡ []) × (m'.0.hand ≡ 0)
    pub more : IsPrefix m.0.seen m'.0.seen
    pub sound : IsSound m'.0
    pub done : m'.0.done ≡ slice_set m.0.done k (slice_index m'.0.done k)
    pub takes : m'.0.takes ≡ counted_up m.0.takes k
    pub olds : m'.0.olds ≡ m.0.olds
    pub author : m'.0.author ≡ m.0.author
    pub parts : m'.0.parts ≡ m.0.parts
    pub pages : m'.0.pages ≡ m.0.pages
