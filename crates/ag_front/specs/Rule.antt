-- The rule of the front. Words 0 to 15 are published LSNs, word 16 + k is the turn of slot k; slots 0 to 15 have the stripes and slot 16 the log.
use Rattle.std.specs.Prelude.{◌≡◌, ℕ, ◌+◌, ◌-◌, ◌%◌, ◌^◌, ◌<◌, ◌≤◌, true, List, [], ◌∷◌, length, slice_index, replicate, min}
use Rattle.std.specs.List.{sum_by}
use mathlib.Core.Option.{Option, some}
use lib.ListN.{get_elem?}
use Rattle.atomic_table.specs.Table.{State}
use Rattle.ag_model.specs.declared.record.Log.{Log}
use Rattle.ag_model.specs.Prefixes.{end_of, IsPrefix, IsBlockEnd}
use Rattle.ag_model.specs.Proper.{IsProper}
use Rattle.ag_model.specs.Stripes.{Standing, StandsFor}
use Rattle.ag_front.specs.declared.view.View.{View}
use Rattle.ag_front.specs.declared.rule.Slot.{Slot}
use Rattle.ag_front.specs.declared.rule.Slot.TheVariants.{Stripe, History}

-- a log with no record
abbrev pub empty_log : Log
empty_log = record { records = []; ends = [] }

-- the first view: it has seen this log, knows these numbers, has all parts and is the author
abbrev pub starting : ℕ → Log → List ℕ → List ℕ → View
starting count log published applied = record {
  seen = log;
  floor = published;
  done = applied;
  turn = replicate 17 0;
  takes = replicate 17 0;
  tries = replicate 17 0;
  loads = replicate 16 0;
  olds = (empty_log, empty_log);
  author = true;
  parts = 4096;
  pages = count;
  hand = 0;
  at = 0;
}

-- the published LSN of stripe k
abbrev pub published : List ℕ → ℕ → ℕ
published words k = slice_index words k

-- the takes and gives of slot k so far: even where it is at home, odd where it is out
abbrev pub turn_of : List ℕ → ℕ → ℕ
turn_of words k = slice_index words (16 + k)

-- the least of a number and some more
abbrev pub least_from : ℕ → List ℕ → ℕ
least_from m [] = m
least_from m (x ∷ xs) = least_from (min m x) xs

-- the least of some numbers
abbrev pub least : List ℕ → ℕ
least [] = 0
least (x ∷ xs) = least_from x xs

-- a view has a number for each word and slot
pub record IsSizedOf (floor done turn takes tries loads : List ℕ) : Type 0 where
  pub floor_size : length floor ≡ 16
  pub done_size : length done ≡ 16
  pub turn_size : length turn ≡ 17
  pub takes_size : length takes ≡ 17
  pub tries_size : length tries ≡ 17
  pub loads_size : length loads ≡ 16

-- the log and both old ones fit, and each applied LSN, and each floor as far as the log goes, ends a block of it
pub record IsSoundOf (pages : ℕ) (seen first second : Log) (floor done turn takes tries loads : List ℕ) : Type 0 where
  pub sized : IsSizedOf floor done turn takes tries loads
  pub proper : IsProper pages seen
  pub first_old : IsPrefix first seen
  pub second_old : IsPrefix second seen
  pub dones : (k : ℕ) → k < 16 → IsBlockEnd seen (slice_index done k)
  pub floors : (k : ℕ) → k < 16 → slice_index floor k ≤ end_of seen → IsBlockEnd seen (slice_index floor k)

-- what is true of a view by itself
abbrev pub IsSound : View → Type 0
IsSound v = IsSoundOf v.pages v.seen v.olds.0 v.olds.1 v.floor v.done v.turn v.takes v.tries v.loads

module _ {T : Type 0} (standing : T → Standing) (count : ℕ) where
  -- stripe k of this front, applied up to n, stands for the log
  pub record StandsAt (log : Log) (k n : ℕ) (t : T) : Type 0 where
    pub numbered : (standing t).number ≡ k
    pub paged : (standing t).pages ≡ count
    pub at : (standing t).applied ≡ n
    pub stands : StandsFor (standing t) log

  -- the words, and the slots at home; `at k` is the applied LSN of stripe k, of one that is out the one at its taking
  pub record IsLaid (words : List ℕ) (homes : List (Option (Slot T))) (log : Log) (at : ℕ → ℕ) : Type 0 where
    pub wide : length words ≡ 33
    pub deep : length homes ≡ 17
    pub proper : IsProper count log
    pub ends : (k : ℕ) → k < 16 → IsBlockEnd log (at k)
    pub published_end : (k : ℕ) → k < 16 → IsBlockEnd log (published words k)
    pub published_low : (k : ℕ) → k < 16 → published words k ≤ at k
    pub turns_low : (k : ℕ) → k < 17 → turn_of words k < 2 ^ 64 - 1
    pub stripe_home : (k : ℕ) → k < 16 → turn_of words k % 2 ≡ 0 → (t : T) × (get_elem? homes k ≡ some (some (Stripe t))) × StandsAt log k (at k) t
    pub log_home : turn_of words 16 % 2 ≡ 0 → get_elem? homes 16 ≡ some (some (History log))

  -- what seat j knows, where the log, the applied LSNs, the holders of slots and the author's seat are these
  pub record Knows (words : List ℕ) (log : Log) (at holder : ℕ → ℕ) (writer : ℕ) (j : ℕ) (v : View) : Type 0 where
    pub sound : IsSound v
    pub seen : IsPrefix v.seen log
    pub some_part : 0 < v.parts
    pub counted : v.pages ≡ count
    pub floors : (k : ℕ) → k < 16 → IsBlockEnd log (slice_index v.floor k)
    pub floors_low : (k : ℕ) → k < 16 → slice_index v.floor k ≤ published words k
    pub dones_low : (k : ℕ) → k < 16 → slice_index v.done k ≤ at k
    pub turns_low : (k : ℕ) → k < 17 → slice_index v.turn k ≤ turn_of words k
    pub author : v.author ≡ true → (j ≡ writer) × (v.seen ≡ log)
    pub held : (k : ℕ) → k < 17 → v.hand ≡ k + 1 → (turn_of words k % 2 ≡ 1) × (holder k ≡ j)
    pub held_stripe : (k : ℕ) → k < 16 → v.hand ≡ k + 1 → (v.at ≡ at k) × (at k ≤ end_of v.seen)
    pub held_log : v.hand ≡ 17 → v.seen ≡ log

  -- the rule: one log, an applied LSN a stripe and a holder a slot that is out, with which words, slots and views agree
  pub record FollowsRule (s : State (Slot T) View) : Type 0 where
    pub log : Log
    pub at : ℕ → ℕ
    pub holder : ℕ → ℕ
    pub writer : ℕ
    pub laid : IsLaid s.words s.homes log at
    pub each : (j : ℕ) (v : View) → get_elem? s.views j ≡ some v → 0 < v.parts → Knows s.words log at holder writer j v
    -- a spent view holds nothing
    pub spent : (j : ℕ) (v : View) → get_elem? s.views j ≡ some v → v.parts ≡ 0 → v.hand ≡ 0
    pub out : (k : ℕ) → k < 17 → turn_of s.words k % 2 ≡ 1 → (v : View) × (get_elem? s.views (holder k) ≡ some v) × (v.hand ≡ k + 1)
    pub written : (v : View) × (get_elem? s.views writer ≡ some v) × (v.author ≡ true) × (0 < v.parts)
    pub shared : sum_by (λ (v : View). v.parts) s.views ≡ 4096
