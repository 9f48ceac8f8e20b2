-- The room that `set` needs, told by the bytes used on each page.
use Rattle.std.specs.Prelude.{◌≡◌, ℕ, ◌+◌, ◌-◌, ◌%◌, ◌<◌, ◌≤◌, List, [], ◌∷◌, ◌++◌, length, replicate, get_or, set, Bool, true, false, if◌then◌else◌, ◌==◌, nat_lt, Option, Some, None}
use Rattle.std.specs.List.{AllByRecursion, fold, list_any}
use Rattle.ag_model.specs.declared.record.Record.{Record}
use Rattle.ag_model.specs.declared.record.Record.TheVariants.{Put, Trim}
use Rattle.ag_model.specs.declared.event.Pair.{Pair}
use Rattle.ag_model.specs.declared.answer.Refusal.{Refusal}
use Rattle.ag_model.specs.declared.answer.Refusal.TheVariants.{PageFull}
use Rattle.ag_model.specs.Rows.{page_of}
use Rattle.ag_model.specs.Page.{all_versions}
use Rattle.ag_model.specs.Sizes.{versions_size}
use Rattle.ag_model.specs.Txns.{txn_of}
use Rattle.ag_rules.specs.Replica.{Replica}
use Rattle.ag_rules.specs.Plan.{Part, refused}
use Rattle.ag_rules.specs.SetEvent.{pair_size, taken_on}

-- whether a record trims a page
abbrev pub is_trim : Record → Bool
is_trim (Trim page horizon) = true
is_trim _ = false

-- a log with its buffer in which every version is committed, no page is trimmed, the transactions go up to `last`, and these are the bytes used on each page
pub record IsSetLog (pages last : ℕ) (log : List Record) (used : List ℕ) : Type 0 where
  pub known : AllByRecursion (λ (r : Record). AllByRecursion (λ t. t ≤ last) (txn_of r)) log
  pub untrimmed : list_any is_trim log ≡ false
  pub committed : (page : ℕ) → list_any (λ v. v.commit == 0) (all_versions pages page log) ≡ false
  pub room : (page : ℕ) → 16 ≤ page → page < 16 + pages → get_or used (page - 16) 0 ≡ versions_size (all_versions pages page log)
  pub few : length used ≡ pages

-- the bytes used on each page once a pair is set
abbrev pub spent : ℕ → List ℕ → Pair → List ℕ
spent pages used pair = set used (pair.key % pages) (get_or used (pair.key % pages) 0 + pair_size pair)

-- the bytes used once these pairs are set
abbrev pub used_after : ℕ → List Pair → List ℕ → List ℕ
used_after pages pairs used = fold (spent pages) used pairs

-- the bytes used on each page once a Put of a record is there
abbrev pub used_by : ℕ → List ℕ → Record → List ℕ
used_by pages used (Put txn key value) = spent pages used (record { key = key; value = value })
used_by pages used _ = used

-- the bytes that the Puts of a log use on each page
abbrev pub used_in : ℕ → List Record → List ℕ
used_in pages log = fold (used_by pages) (replicate pages 0) log

-- the bytes that the page of a pair has free, after the earlier pairs
abbrev pub room_left : ℕ → List ℕ → List Pair → Pair → ℕ
room_left pages used earlier pair = 8144 - get_or used (pair.key % pages) 0 - taken_on pages (page_of pages pair.key) earlier

-- the first pair whose page has no room for it, after the earlier ones
abbrev pub first_full : ℕ → List ℕ → List Pair → List Pair → Option Refusal
first_full pages used earlier [] = None
first_full pages used earlier (pair ∷ pairs) =
    if nat_lt (room_left pages used earlier pair) (pair_size pair)
    then Some (PageFull (pair_size pair) (room_left pages used earlier pair))
    else first_full pages used (earlier ++ pair ∷ []) pairs

-- this refusal, which leaves the replica; and where there is none, what the event does
abbrev pub unless_some : Option Refusal → Replica → Part → Part
unless_some None r part = part
unless_some (Some why) r part = refused why r
