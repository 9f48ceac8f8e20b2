-- What the steps on the slots tell.
use Rattle.std.specs.Prelude.{◌≡◌, ◌≢◌, ◌⊎◌, ℕ, ◌+◌, ◌-◌, ◌%◌, ◌^◌, ◌<◌, ◌≤◌, true, List, [], ◌∷◌, slice_index, slice_set}
use Rattle.atomic_table.specs.Table.{Step}
use Rattle.ag_model.specs.declared.record.Log.{Log}
use Rattle.ag_model.specs.declared.record.Record.{Record}
use Rattle.ag_model.specs.Blocks.{with_block}
use Rattle.ag_model.specs.Prefixes.{end_of, IsPrefix}
use Rattle.ag_model.specs.Proper.{IsProper}
use Rattle.ag_model.specs.Stripes.{Standing}
use Rattle.ag_front.specs.declared.view.View.{View}
use Rattle.ag_front.specs.declared.rule.Slot.{Slot}
use Rattle.ag_front.specs.declared.rule.Slot.TheVariants.{Stripe, History}
use Rattle.ag_front.specs.Rule.{IsSound, StandsAt}
use Rattle.ag_front.specs.Steps.{Hold}

-- the counts with one more at k
abbrev pub counted_up : List ℕ → ℕ → List ℕ
counted_up xs k = slice_set xs k (slice_index xs k + 1)

-- a compare and exchange on the turn word of the slot k found n, and failed
abbrev pub tried : View → ℕ → ℕ → View
tried v k n = record v { turn = slice_set v.turn k n; tries = counted_up v.tries k }

-- the stripe k was taken, at the word `word`, after these tries
abbrev pub with_stripe : View → ℕ → Log → ℕ → List ℕ → List ℕ → View
with_stripe v k seen at turn tries = record v {
  seen = seen;
  done = slice_set v.done k at;
  turn = turn;
  takes = counted_up v.takes k;
  tries = tries;
  hand = k + 1;
  at = at;
}

-- the log was taken, and is this one
abbrev pub with_log : View → Log → List ℕ → List ℕ → View
with_log v seen turn tries = record v {
  seen = seen;
  turn = turn;
  takes = counted_up v.takes 16;
  tries = tries;
  hand = 17;
  at = end_of seen;
}

-- the log that goes home is the one that was taken or, from the author, that one with one more block
abbrev pub MayGive : View → Log → Type 0
MayGive v log = (log ≡ v.seen) ⊎ ((v.author ≡ true) × (new : List Record) × (log ≡ with_block v.seen new) × IsProper v.pages log)

module _ {T : Type 0} where
  -- the slot k was not taken at this try, which found n
  abbrev pub Missed : ℕ → Hold T → ℕ → Hold T → Type 0
  Missed k m n m' = (m' ≡ (tried m.0 k n, m.1)) × (slice_index m.0.turn k ≤ n) × IsSound m'.0

module _ {T : Type 0} (standing : T → Standing) where
  -- the pass has the stripe k, which stands for a beginning of all that it has seen
  pub record HasStripe (k : ℕ) (m : Hold T) (turn tries : List ℕ) (m' : Hold T) : Type 0 where
    pub seen : Log
    pub stripe : T
    pub is : m' ≡ (with_stripe m.0 k seen (standing stripe).applied turn tries, (k, Stripe stripe) ∷ m.1)
    pub more : IsPrefix m.0.seen seen
    pub stands : StandsAt standing m.0.pages seen k (standing stripe).applied stripe
    pub floor : slice_index m.0.floor k ≤ (standing stripe).applied
    pub done : slice_index m.0.done k ≤ (standing stripe).applied
    pub sound : IsSound m'.0

  -- a compare and exchange on a stripe's turn word took the stripe, or found another number
  abbrev pub stripe_tried : Step (Slot T) → Hold T → ℕ → Hold T → Type 0
  stripe_tried st m n m' = (k : ℕ) → st.word ≡ 16 + k → (n ≡ st.first → HasStripe k m (slice_set m.0.turn k st.second) (counted_up m.0.tries k) m') × (n ≢ st.first → Missed k m n m')

  -- the stripe that the pass holds goes home, further on
  abbrev pub stripe_given : Step (Slot T) → Hold T → ℕ → Hold T → Type 0
  stripe_given st m n m' =
      (k : ℕ) (t : T) → m.1 ≡ (k, Stripe t) ∷ []
      → (n < 2 ^ 64 - 1) × (m' ≡ (record m.0 { done = slice_set m.0.done k (standing t).applied; turn = slice_set m.0.turn k (n + 1); hand = 0 }, []))
      × (slice_index m.0.turn k ≤ n + 1) × IsSound m'.0

module _ {T : Type 0} where
  -- the pass has the log, and has seen all of it
  pub record HasLog (m : Hold T) (turn tries : List ℕ) (m' : Hold T) : Type 0 where
    pub log : Log
    pub is : m' ≡ (with_log m.0 log turn tries, (16, History log) ∷ m.1)
    pub more : IsPrefix m.0.seen log
    pub proper : IsProper m.0.pages log
    pub whole : m.0.author ≡ true → m.0.seen ≡ log
    pub sound : IsSound m'.0

  -- a compare and exchange on the log's turn word took the log, or found another number
  abbrev pub log_tried : Step (Slot T) → Hold T → ℕ → Hold T → Type 0
  log_tried st m n m' = (n ≡ st.first → HasLog m (slice_set m.0.turn 16 st.second) (counted_up m.0.tries 16) m') × (n ≢ st.first → Missed 16 m n m')

  -- the log that the pass holds goes home
  abbrev pub log_given : Step (Slot T) → Hold T → ℕ → Hold T → Type 0
  log_given st m n m' = (log : Log) → m.1 ≡ (16, History log) ∷ [] → (n < 2 ^ 64 - 1) × (m' ≡ (record m.0 { seen = log; turn = slice_set m.0.turn 16 (n + 1); hand = 0 }, [])) × IsSound m'.0

module _ {T : Type 0} where
  -- the slot k was not taken: only the word found and the count of tries changed
  pub record IsBusy (k : ℕ) (m m' : Hold T) : Type 0 where
    pub in_hand : m'.1 ≡ m.1
    pub only : m'.0 ≡ record m.0 { turn = slice_set m.0.turn k (slice_index m'.0.turn k); tries = slice_set m.0.tries k (slice_index m'.0.tries k) }
    pub why : ((slice_index m'.0.turn k % 2 ≡ 1) × (slice_index m.0.turn k ≤ slice_index m'.0.turn k) × (slice_index m.0.tries k + 1 ≤ slice_index m'.0.tries k))
        ⊎ ((slice_index m'.0.turn k % 2 ≡ 0) × (slice_index m.0.turn k + 4 ≤ slice_index m'.0.turn k) × (slice_index m.0.tries k + 2 ≤ slice_index m'.0.tries k))
        ⊎ (2 ^ 64 - 3 ≤ slice_index m'.0.turn k)

module _ {T : Type 0} (standing : T → Standing) where
  -- the stripe k was taken at the word `turn`
  pub record Took (k turn : ℕ) (m m' : Hold T) : Type 0 where
    pub tries : List ℕ
    pub has : HasStripe standing k m (slice_set m.0.turn k turn) tries m'
    pub odd : turn % 2 ≡ 1

module _ {T : Type 0} where
  -- the log was taken at the word `turn`, after some tries
  pub record TookLog (turn : ℕ) (m m' : Hold T) : Type 0 where
    pub log : Log
    pub tries : List ℕ
    pub is : m' ≡ (with_log m.0 log (slice_set m.0.turn 16 turn) tries, (16, History log) ∷ m.1)
    pub more : IsPrefix m.0.seen log
    pub proper : IsProper m.0.pages log
    pub whole : m.0.author ≡ true → m.0.seen ≡ log
    pub sound : IsSound m'.0

  -- only tries were made, and the last found `turn`
  pub record Trying (turn : ℕ) (m m' : Hold T) : Type 0 where
    pub tries : List ℕ
    pub is : m' ≡ (record m.0 { turn = slice_set m.0.turn 16 turn; tries = tries }, m.1)

  -- a call took the log and gave it back, and the pass holds nothing
  pub record LogVisited (m m' : Hold T) : Type 0 where
    pub free : (m'.1 ≡ []) × (m'.0.hand ≡ 0)
    pub more : IsPrefix m.0.seen m'.0.seen
    pub sound : IsSound m'.0
    pub takes : m'.0.takes ≡ counted_up m.0.takes 16
    pub turns : (k : ℕ) → k < 16 → slice_index m'.0.turn k ≡ slice_index m.0.turn k
    pub floor : m'.0.floor ≡ m.0.floor
    pub done : m'.0.done ≡ m.0.done
    pub loads : m'.0.loads ≡ m.0.loads
    pub olds : m'.0.olds ≡ m.0.olds
    pub author : m'.0.author ≡ m.0.author
    pub parts : m'.0.parts ≡ m.0.parts
    pub pages : m'.0.pages ≡ m.0.pages
