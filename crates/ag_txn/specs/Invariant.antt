-- What is true of the fields of the transactions of a primary.
use Rattle.std.specs.Prelude.{◌≡◌, ℕ, ◌+◌, ◌^◌, ◌<◌, ◌≤◌, List, length}
use Rattle.ag_model.specs.declared.record.Record.{Record}
use Rattle.ag_txn.specs.View.{Copies}
use Rattle.ag_model.specs.Sizes.{records_size}

-- so many data pages, each with a slot; the buffer's records have so many bytes, and LSNs
pub record AreTxns (pages end : ℕ) (copies : Copies) (buffer : List Record) (size : ℕ) : Type 0 where
  pub low : 16 ≤ pages
  pub high : pages ≤ 2048
  pub slots : length copies ≡ pages
  pub bytes : size ≡ records_size buffer
  pub few : size ≤ 15488
  pub lsns : end + length buffer < 2 ^ 64
