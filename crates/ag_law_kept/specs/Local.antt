-- What holds of each commit that was confirmed, as synchronous or by the primary alone.
use Rattle.std.specs.Prelude.{◌≡◌, ℕ, ◌-◌, ◌<◌, ◌≤◌, List, [], ◌∷◌, take, length, slice_get, true}
use Rattle.std.specs.List.{flat_map, list_any, AllByRecursion}
use Rattle.ag_model.specs.declared.config.TermStart.{TermStart}
use Rattle.ag_model.specs.declared.event.Event.{Event}
use Rattle.ag_model.specs.declared.event.Event.TheVariants.{Ack}
use Rattle.ag_model.specs.declared.answer.Answer.{Answer}
use Rattle.ag_model.specs.declared.answer.Answer.TheVariants.{LocalAt}
use Rattle.ag_rules.specs.Replica.{Replica, records}
use Rattle.ag_rules.specs.Group.{Group, replica}
use Rattle.ag_rules.specs.Next.{named}
use Rattle.ag_rules.specs.Run.{Moment}
use Rattle.ag_rules.specs.TermLog.{term_log}
use Rattle.ag_rules.specs.KeptLaw.{Confirmed, confirmed_by, is_safe_into, starts_at}

-- the Commit that an answer of this replica confirms, as synchronous or alone
abbrev pub all_confirmed_by : Replica → Answer → List Confirmed
all_confirmed_by r (LocalAt lsn) = record { term = r.term; lsn = lsn; commit = slice_get (records r) (lsn - 1) } ∷ []
all_confirmed_by r a = confirmed_by r a

-- the Commit that an event confirms so
abbrev pub all_confirmed_at : Group → Event → Answer → List Confirmed
all_confirmed_at g (Ack w lsn suffix) a = all_confirmed_by (replica g (named g w)) a
all_confirmed_at g _ a = []

-- all such Commits of a run
abbrev pub all_confirmed_in : List Moment → List Confirmed
all_confirmed_in ms = flat_map (λ m. all_confirmed_at m.before m.event m.answer) ms

-- from one term to another there were only safe failovers
abbrev pub AllSafe : List Moment → ℕ → ℕ → Type 0
AllSafe ms from to = (t : ℕ) → from < t → t ≤ to → list_any (is_safe_into t) ms ≡ true

-- the Commit stands in the log of a later term before that term's start, after the same records as in the log of its own
pub record StandsOver (ms : List Moment) (t : ℕ) (c : Confirmed) (start : TermStart) : Type 0 where
  pub below : c.lsn < start.lsn
  pub same : take c.lsn (term_log ms t) ≡ take c.lsn (term_log ms c.term)

-- the Commit is a record of the log of its term, and stands in that of each later term that safe failovers alone led to
pub record Stays (ms : List Moment) (c : Confirmed) : Type 0 where
  pub within : (0 < c.lsn) × (c.lsn ≤ length (term_log ms c.term))
  pub commit : slice_get (term_log ms c.term) (c.lsn - 1) ≡ c.commit
  pub over : (t : ℕ) → c.term < t → AllSafe ms c.term t → AllByRecursion (StandsOver ms t c) (starts_at t (term_log ms t))

-- the law: of each confirmed Commit
abbrev pub ConfirmedLaw : List Moment → Type 0
ConfirmedLaw ms = AllByRecursion (Stays ms) (all_confirmed_in ms)
