-- The prefixes of a log, and the LSNs at which its blocks end.
use Rattle.std.specs.Prelude.{◌≡◌, ℕ, ◌+◌, ◌∷◌, length, true}
use Rattle.ag_model.specs.declared.message.Block.{Block}
use Rattle.ag_model.specs.declared.record.Log.{Log}
use Rattle.ag_model.specs.Blocks.{with_block, cut_at}
use Rattle.ag_model.specs.Rows.{contains}

-- the last LSN of a log, or 0
abbrev pub end_of : Log → ℕ
end_of log = length log.records

-- a block of the log ends at this LSN
abbrev pub IsBlockEnd : Log → ℕ → Type 0
IsBlockEnd log lsn = contains lsn log.ends ≡ true

-- the one log is a prefix of the other: that one cut at the end of a block, or at 0
pub record IsPrefix (first log : Log) : Type 0 where
  pub end : contains (end_of first) (0 ∷ log.ends) ≡ true
  pub cut : first ≡ cut_at (end_of first) log

-- the block stands in the log, next after a prefix of it
pub record HasBlock (log : Log) (block : Block) : Type 0 where
  pub before : Log
  pub prefix : IsPrefix before log
  pub with_it : IsPrefix (with_block before block.records) log
  pub first : block.first ≡ end_of before + 1
