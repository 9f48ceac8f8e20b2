-- What a stripe stands for.
use Rattle.std.specs.Prelude.{◌≡◌, ℕ, ◌+◌, ◌≤◌, ◌<◌, [], ◌∷◌, Bool, false}
use Rattle.ag_model.specs.declared.message.Block.{Block}
use Rattle.ag_model.specs.declared.record.Log.{Log}
use Rattle.ag_model.specs.declared.record.Record.TheVariants.{Term}
use Rattle.ag_model.specs.declared.value.PageValue.{PageValue}
use Rattle.ag_model.specs.Page.{value}
use Rattle.ag_model.specs.Prefixes.{IsBlockEnd, HasBlock}
use Rattle.ag_model.specs.Proper.{IsProper}
use Rattle.ag_model.specs.Rows.{stripe_of}

-- how a stripe stands: its number, the number of data pages, its LSNs, and what is known of each page
pub record Standing : Type 0 where
  pub number : ℕ
  pub pages : ℕ
  pub opening : ℕ
  pub applied : ℕ
  pub value : ℕ → PageValue
  pub is_bad : ℕ → Bool
  pub is_pending : ℕ → Bool

-- a page of the stripe
pub record IsPageOf (s : Standing) (page : ℕ) : Type 0 where
  pub low : 16 ≤ page
  pub high : page < 16 + s.pages
  pub stripe : stripe_of page ≡ s.number

-- the stripe stands for the prefix of the log up to its applied LSN: each page that isn't bad has its value there
pub record StandsFor (s : Standing) (log : Log) : Type 0 where
  pub applied : IsBlockEnd log s.applied
  pub values : (page : ℕ) → IsPageOf s page → s.is_bad page ≡ false → s.value page ≡ value s.pages log.records s.applied page

-- the block stands in this log next after what the stripe has applied of it
pub record IsNextBlock (s : Standing) (log : Log) (block : Block) : Type 0 where
  pub proper : IsProper s.pages log
  pub stands : StandsFor s log
  pub stands_in : HasBlock log block
  pub next : block.first ≡ s.applied + 1

-- number, pages and opening LSN are the same
pub record IsSameStripe (s t : Standing) : Type 0 where
  pub number : t.number ≡ s.number
  pub pages : t.pages ≡ s.pages
  pub opening : t.opening ≡ s.opening

-- the log with which a group opens
abbrev pub opening_log : Log
opening_log = record { records = Term 1 ∷ []; ends = 1 ∷ [] }

-- a new stripe of this number, which stands for the opening log
pub record IsOpeningStripe (number pages : ℕ) (s : Standing) : Type 0 where
  pub numbered : s.number ≡ number
  pub paged : s.pages ≡ pages
  pub opened : s.opening ≡ 1
  pub applied : s.applied ≡ 1
  pub stands : StandsFor s opening_log
