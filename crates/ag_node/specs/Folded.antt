-- The greatest transaction number, record by record.
use Rattle.std.specs.Prelude.{ℕ, max}
use Rattle.std.specs.List.{fold}
use Rattle.ag_model.specs.declared.record.Record.{Record}
use Rattle.ag_model.specs.Txns.{txn_of}

-- the greater of a transaction number and that of a record, if it has one
abbrev pub txn_after : ℕ → Record → ℕ
txn_after last r = fold max last (txn_of r)
