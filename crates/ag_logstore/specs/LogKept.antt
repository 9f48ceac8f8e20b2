-- What a log in memory keeps beside its records.
use Rattle.std.specs.Prelude.{◌≡◌, ℕ, ◌+◌, ◌<◌, ◌≤◌, List, [], ◌∷◌, length, if◌then◌else◌}
use Rattle.ag_model.specs.declared.config.TermStart.{TermStart}
use Rattle.ag_model.specs.declared.record.Record.{Record}
use Rattle.ag_model.specs.declared.record.Log.{Log}
use Rattle.ag_model.specs.Starts.{term_starts}
use Rattle.ag_model.specs.Sizes.{records_size, log_sectors}
use Rattle.ag_record.specs.Spelling.{HaveSpelling}
use Rattle.ag_logstore.specs.Blocks.{AreBlocks}

-- block ends that rise from one LSN to another
abbrev pub RisesTo : ℕ → ℕ → List ℕ → Type 0
RisesTo low high [] = low ≡ high
RisesTo low high (e ∷ es) = (low < e) × RisesTo e high es

-- blocks that end there take at most 15488 bytes each, where the first one starts after an LSN
abbrev pub AreSmall : ℕ → List ℕ → List Record → Type 0
AreSmall low ends rs = AreBlocks (λ b. records_size b ≤ 15488) low ends rs

-- the starts and the sectors are those of the log, whose blocks end where its records do and can be sent
pub record IsKept (log : Log) (kept : List TermStart) (used : ℕ) : Type 0 where
  pub rises : RisesTo 0 (length log.records) log.ends
  pub starts : kept ≡ term_starts log.records
  pub sectors : used ≡ log_sectors log
  pub fits : HaveSpelling log.records
  pub blocks : AreSmall 0 log.ends log.records
