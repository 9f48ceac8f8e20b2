-- What each step tells its pass.
use Rattle.std.specs.Prelude.{◌≡◌, ℕ, ◌+◌, ◌-◌, ◌≤◌, false, cond, ◌||◌, List, [], ◌∷◌, slice_index, slice_set, max, ltb}
use Rattle.atomic_table.specs.Table.{Me, Step}
use Rattle.ag_model.specs.declared.record.Log.{Log}
use Rattle.ag_model.specs.Prefixes.{end_of}
use Rattle.ag_front.specs.declared.view.View.{View}
use Rattle.ag_front.specs.declared.rule.Slot.{Slot}
use Rattle.ag_front.specs.Rule.{IsSound, empty_log}

-- the view after word k was loaded and had n
abbrev pub after_load : View → ℕ → ℕ → View
after_load v k n = record v { floor = slice_set v.floor k n; loads = slice_set v.loads k (slice_index v.loads k + 1) }

-- the view after word k was raised and has n
abbrev pub after_raise : View → ℕ → ℕ → View
after_raise v k n = record v { floor = slice_set v.floor k n }

-- a seat's view and the slots that are out with it
abbrev pub Hold : Type 0 → Type 0
Hold T = Me (Slot T) View

-- a view that gave away n parts
abbrev pub kept_part : ℕ → View → View
kept_part n v = record v { parts = v.parts - n }

-- the new view that has them
abbrev pub given_part : ℕ → View → View
given_part n v = record v { parts = n; author = false }

-- the longer of two logs
abbrev pub longer : Log → Log → Log
longer a b = cond (ltb (end_of a) (end_of b)) b a

-- the greater number at each place
abbrev pub maxes : List ℕ → List ℕ → List ℕ
maxes [] ys = []
maxes (x ∷ xs) [] = []
maxes (x ∷ xs) (y ∷ ys) = max x y ∷ maxes xs ys

-- what two views know and have together
abbrev pub merged : View → View → View
merged v w = record {
  seen = longer v.seen w.seen;
  floor = maxes v.floor w.floor;
  done = maxes v.done w.done;
  turn = maxes v.turn w.turn;
  takes = maxes v.takes w.takes;
  tries = maxes v.tries w.tries;
  loads = maxes v.loads w.loads;
  olds = (v.seen, w.seen);
  author = v.author || w.author;
  parts = v.parts + w.parts;
  pages = v.pages;
  hand = 0;
  at = 0;
}

-- a view that a join has spent
abbrev pub spent_view : View
spent_view = record {
  seen = empty_log;
  floor = [];
  done = [];
  turn = [];
  takes = [];
  tries = [];
  loads = [];
  olds = (empty_log, empty_log);
  author = false;
  parts = 0;
  pages = 0;
  hand = 0;
  at = 0;
}

module _ {T : Type 0} where
  -- a published word was loaded: the floor becomes what was found
  abbrev pub loaded : Step (Slot T) → Hold T → ℕ → Hold T → Type 0
  loaded st m n m' = (m' ≡ (after_load m.0 st.word n, m.1)) × (slice_index m.0.floor st.word ≤ n) × IsSound m'.0

  -- a published word was raised: the floor becomes what it then has
  abbrev pub raised : Step (Slot T) → Hold T → ℕ → Hold T → Type 0
  raised st m n m' = (m' ≡ (after_raise m.0 st.word (max n st.first), m.1)) × (slice_index m.0.floor st.word ≤ max n st.first) × IsSound m'.0
