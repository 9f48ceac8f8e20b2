-- Where the blocks of the log of each term end.
use Rattle.std.specs.Prelude.{◌≡◌, ℕ, ◌+◌, ◌-◌, ◌<◌, ◌≤◌, List, [], ◌∷◌, ◌++◌, length, take, Bool, true, ◌==◌, ◌||◌}
use Rattle.std.specs.List.{AllByRecursion}
use Rattle.ag_model.specs.declared.record.Record.{Record}
use Rattle.ag_model.specs.declared.record.Record.TheVariants.{Term}
use Rattle.ag_model.specs.declared.record.Log.{Log}
use Rattle.ag_model.specs.declared.config.TermStart.{TermStart}
use Rattle.ag_model.specs.declared.message.Message.{Message}
use Rattle.ag_model.specs.declared.message.Block.{Block}
use Rattle.ag_model.specs.declared.message.Body.{Body}
use Rattle.ag_model.specs.declared.message.Body.TheVariants.{Hello, Resume, Block as OfBlock}
use Rattle.ag_model.specs.Rows.{contains}
use Rattle.ag_model.specs.Starts.{term_starts, last_term}
use Rattle.ag_model.specs.Proper.{RisesFrom}
use Rattle.ag_laws.specs.Logs.{Logs, IsTraced}
use Rattle.ag_laws.specs.Fits.{IsPart}
use Rattle.ag_law_blocks.specs.Blocked.{TermsBeginBlocks}

-- for each term and LSN, whether a block ends there in the log of the term
abbrev pub Marks : Type 0
Marks = ℕ → ℕ → Bool

-- whether a block ends after so many records of a log, by the log of their last term
abbrev pub mark_at : Marks → List Record → ℕ → Bool
mark_at marks log n = marks (last_term (take n log)) n

-- the log begins with the first term
abbrev pub Begins : List Record → Type 0
Begins log = (rest : List Record) × (log ≡ Term 1 ∷ rest)

-- the ends of a log are those of the logs of its terms; they rise, the last record is one, and terms begin blocks
pub record Marked (marks : Marks) (log : Log) : Type 0 where
  pub same : (n : ℕ) → n ≤ length log.records → contains n (0 ∷ log.ends) ≡ mark_at marks log.records n
  pub rises : RisesFrom 0 log.ends
  pub whole : contains (length log.records) (0 ∷ log.ends) ≡ true
  pub terms : TermsBeginBlocks log

-- a block of this log: where it begins and where it ends, blocks end, and none ends between; a term starts at its beginning alone
pub record MarkedBlock (marks : Marks) (log : List Record) (b : Block) : Type 0 where
  pub part : IsPart log b
  pub some : 0 < length b.records
  pub ends : (n : ℕ) → b.first - 1 ≤ n → n ≤ b.first - 1 + length b.records → mark_at marks log n ≡ ((n == b.first - 1) || (n == b.first - 1 + length b.records))
  pub terms : (front : List Record) (term : ℕ) (back : List Record) → b.records ≡ front ++ Term term ∷ back → front ≡ []

-- a Hello of such a log
pub record MarkedHello (marks : Marks) (logs : Logs) (its_end : ℕ) (starts : List TermStart) : Type 0 where
  pub log : List Record
  pub long : its_end ≡ length log
  pub lists : starts ≡ term_starts log
  pub traced : IsTraced logs log
  pub begins : Begins log
  pub whole : mark_at marks log its_end ≡ true
  pub terms : AllByRecursion (λ s. (s.lsn - 1 ≤ length log) × (mark_at marks log (s.lsn - 1) ≡ true)) starts

-- a Resume at a fork where a block ends
pub record MarkedFork (marks : Marks) (log : List Record) (fork : ℕ) : Type 0 where
  pub some : 0 < fork
  pub within : fork ≤ length log
  pub whole : mark_at marks log fork ≡ true

-- what a message of this term tells of the ends
abbrev pub BodyMarked : Marks → Logs → ℕ → Body → Type 0
BodyMarked marks logs term (Hello ticket its_end starts) = MarkedHello marks logs its_end starts
BodyMarked marks logs term (Resume ticket fork its_end) = MarkedFork marks (logs term) fork
BodyMarked marks logs term (OfBlock b) = MarkedBlock marks (logs term) b
BodyMarked marks logs term _ = Unit {0}

-- what a message tells
abbrev pub MessageMarked : Marks → Logs → Message → Type 0
MessageMarked marks logs m = BodyMarked marks logs m.term m.body
