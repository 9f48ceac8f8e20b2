-- What a call says of a pass.
use Rattle.std.specs.Prelude.{◌≡◌, ℕ, ◌<◌, ◌≤◌, List, length, slice_index}
use Rattle.ag_front.specs.declared.view.View.{View}
use Rattle.ag_front.specs.Rule.{least, IsSound}

-- the published words were read and nothing else was learned
abbrev pub OnlyFloors : View → View → Type 0
OnlyFloors v w = w ≡ record v { floor = w.floor; loads = w.loads }

-- no number is lower
abbrev pub NoLower : List ℕ → List ℕ → Type 0
NoLower xs ys = (k : ℕ) → k < 16 → slice_index xs k ≤ slice_index ys k

-- `low` is the least of the first n numbers
pub record IsLeast (low : ℕ) (xs : List ℕ) (n : ℕ) : Type 0 where
  pub below : (k : ℕ) → k < n → low ≤ slice_index xs k
  pub place : ℕ
  pub inside : place < n
  pub is : slice_index xs place ≡ low

-- each of the first n words was loaded
abbrev pub Loaded : ℕ → List ℕ → List ℕ → Type 0
Loaded n xs ys = (k : ℕ) → k < n → slice_index xs k < slice_index ys k

-- the loop of loads has come to the word n
pub record Loading (n low : ℕ) (v w : View) : Type 0 where
  pub only : OnlyFloors v w
  pub sound : IsSound w
  pub old_size : length v.floor ≡ 16
  pub least : IsLeast low w.floor n
  pub no_lower : NoLower v.floor w.floor
  pub more : Loaded n v.loads w.loads
  pub no_fewer : (k : ℕ) → k < 16 → slice_index v.loads k ≤ slice_index w.loads k

-- the front was loaded, it is `at`, and since then only tries were made on turn words
pub record Waiting (at : ℕ) (v w : View) : Type 0 where
  pub only : w ≡ record v { floor = w.floor; loads = w.loads; turn = w.turn; tries = w.tries }
  pub front : at ≡ least w.floor
  pub no_lower : least v.floor ≤ least w.floor
  pub more : Loaded 16 v.loads w.loads
