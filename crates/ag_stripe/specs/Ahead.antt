-- For which log a stripe's pages stand.
use Rattle.std.specs.Prelude.{◌≡◌, ℕ, ◌+◌, ◌≤◌, List, length}
use Rattle.ag_model.specs.declared.message.Block.{Block}
use Rattle.ag_model.specs.declared.record.Log.{Log}
use Rattle.ag_model.specs.declared.record.Record.{Record}
use Rattle.ag_model.specs.Blocks.{after_to}
use Rattle.ag_model.specs.Page.{value}
use Rattle.ag_model.specs.Prefixes.{end_of, IsBlockEnd, HasBlock}
use Rattle.ag_model.specs.Proper.{IsProper}
use Rattle.ag_stripe.specs.Known.{Known}
use Rattle.ag_stripe.specs.Known.Known.{Value}

-- a page has its value after some record of the log, from this LSN to the log's end
pub record IsAhead (pages : ℕ) (log : Log) (applied page : ℕ) (k : Known) : Type 0 where
  pub lsn : ℕ
  pub low : applied ≤ lsn
  pub high : lsn ≤ end_of log
  pub value : k ≡ Value (value pages log.records lsn page)

-- the records stand in a proper log next after an LSN
pub record AreNext (pages applied : ℕ) (log : Log) (records : List Record) : Type 0 where
  pub proper : IsProper pages log
  pub reach : applied + length records ≤ end_of log
  pub stand : after_to applied (applied + length records) log.records ≡ records

-- the block stands in a proper log next after an LSN, which is a block's end
pub record IsNext (pages applied : ℕ) (log : Log) (block : Block) : Type 0 where
  pub proper : IsProper pages log
  pub end : IsBlockEnd log applied
  pub stands_in : HasBlock log block
  pub next : block.first ≡ applied + 1
