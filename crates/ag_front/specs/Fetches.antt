-- What a call that takes the log answers.
use Rattle.std.specs.Prelude.{◌≡◌, ◌≢◌, ℕ, ◌+◌, ◌<◌, take, length}
use Rattle.ag_model.specs.declared.message.Block.{Block}
use Rattle.ag_model.specs.declared.record.Log.{Log}
use Rattle.ag_model.specs.Prefixes.{end_of, HasBlock}
use Rattle.ag_model.specs.Starts.{last_term}
use Rattle.ag_front.specs.declared.fault.DispatchFault.{DispatchFault}
use Rattle.ag_front.specs.declared.fault.DispatchFault.TheVariants.{NotNext, NoMemory}
use Rattle.ag_front.specs.declared.fault.Fetched.{Fetched}
use Rattle.ag_front.specs.declared.fault.Fetched.TheVariants.{Next, UpToDate}

-- why a block that starts there wasn't added to a log that ends there: it isn't next, or it is and there was no memory
abbrev pub IsDispatchFault : ℕ → ℕ → DispatchFault → Type 0
IsDispatchFault first last (NotNext start end) = (start ≡ first) × (end ≡ last) × (first ≢ last + 1)
IsDispatchFault first last NoMemory = first ≡ last + 1

-- the block of the log that starts after an LSN, with the term of the last Term record up to its end
pub record IsBlockAfter (log : Log) (lsn : ℕ) (block : Block) : Type 0 where
  pub stands_in : HasBlock log block
  pub first : block.first ≡ lsn + 1
  pub some : 0 < length block.records
  pub term : block.term ≡ last_term (take (lsn + length block.records) log.records)

-- what is answered of the log after an LSN: a block, or that the log ends there
abbrev pub IsFetched : Log → ℕ → Fetched → Type 0
IsFetched log lsn (Next block) = IsBlockAfter log lsn block
IsFetched log lsn UpToDate = end_of log ≡ lsn
