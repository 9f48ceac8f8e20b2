-- The room of each page.
use Rattle.std.specs.Prelude.{ℕ, ◌+◌, ◌≤◌, List}
use Rattle.ag_model.specs.declared.record.Record.{Record}
use Rattle.ag_model.specs.declared.record.Record.TheVariants.{Put, Del}
use Rattle.ag_model.specs.Page.{value}
use Rattle.ag_model.specs.Rows.{page_of}
use Rattle.ag_model.specs.Sizes.{versions_size}
use Rattle.ag_law_proper.specs.Growth.{free_on}

-- the versions of each page of each prefix of the log have room
abbrev pub HasRoom : ℕ → List Record → Type 0
HasRoom pages log = (n page : ℕ) → versions_size (value pages log n page).versions ≤ 8144

-- a Put or a Del found room on its page
abbrev pub PutPlace : ℕ → List Record → Record → List Record → Type 0
PutPlace pages front (Put txn key value) back = 30 + value.len ≤ free_on pages front (page_of pages key)
PutPlace pages front (Del txn key) back = 30 ≤ free_on pages front (page_of pages key)
PutPlace pages front _ back = Unit {0}
