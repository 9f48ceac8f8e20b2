-- What the calls leave.
use Rattle.std.specs.Prelude.{ℕ, ◌+◌, ◌-◌, List, [], ◌∷◌, ◌++◌, map, get_or, Bool, not, ◌==◌, Option, Some, None}
use Rattle.std.specs.List.{filter, fold}
use Rattle.ag_model.specs.declared.value.Change.{Change}
use Rattle.ag_model.specs.declared.value.PageValue.{PageValue}
use Rattle.ag_model.specs.declared.event.Pair.{Pair}
use Rattle.ag_model.specs.declared.message.Block.{Block}
use Rattle.ag_model.specs.declared.record.Record.TheVariants.{Trim}
use Rattle.ag_model.specs.Rows.{contains, page_numbers}
use Rattle.ag_rules.specs.CommitEvent.{end_record}
use Rattle.ag_rules.specs.Plan.{Check}
use Rattle.ag_txn.specs.Checks.{buffer_is_full}
use Rattle.ag_rules.specs.PutEvent.{record_of}
use Rattle.ag_rules.specs.SetEvent.{records_of_set}
use Rattle.ag_txn.specs.View.{TxnsView, full_end, touching, with_records, with_seen}
use Rattle.ag_txn.specs.declared.opened.OpenTxn.{OpenTxn}

-- the pair at a place of a list
abbrev pub pair_at : List Pair → ℕ → Pair
pair_at pairs place = get_or pairs place (record { key = 0; value = record { len = 0; bytes = [] } })

-- a whole transaction of these pairs
abbrev pub with_set : TxnsView → List Pair → TxnsView
with_set t pairs = record (with_records t (records_of_set t.pages (t.last_txn + 1) pairs)) { last_txn = t.last_txn + 1 }

-- one more open transaction, whose snapshot is the end of the log with the buffer
abbrev pub with_begun : TxnsView → TxnsView
with_begun t = record t { txns = t.txns ++ record { txn = t.last_txn + 1; snapshot = full_end t; touched = [] } ∷ []; last_txn = t.last_txn + 1 }

-- a change of a key by an open transaction, on this page
abbrev pub with_put : TxnsView → PageValue → ℕ → ℕ → Change → TxnsView
with_put t v txn key change = record (with_records (with_seen t v) (record_of txn key change ∷ [])) { txns = map (touching txn v.page) t.txns }

-- a Trim of this page
abbrev pub with_trim : TxnsView → PageValue → ℕ → TxnsView
with_trim t v horizon = with_records (with_seen t v) (Trim v.page horizon ∷ [])

-- the buffer taken out as a block
abbrev pub with_block_taken : TxnsView → TxnsView
with_block_taken t = record t { end = full_end t; buffer = [] }

-- the block of the buffer
abbrev pub block_of : TxnsView → ℕ → Block
block_of t term = record { first = t.end + 1; term = term; records = t.buffer }

-- the same with this block in the buffer again
abbrev pub with_block_back : TxnsView → Block → TxnsView
with_block_back t block = record t { end = block.first - 1; buffer = block.records }

-- no copies, where no transaction is open
abbrev pub forgotten : TxnsView → TxnsView
forgotten t = record t { copies = map (λ c. None) t.copies }

-- the transaction of this number isn't open any more
abbrev pub closed : TxnsView → ℕ → TxnsView
closed t txn = record t { txns = filter (λ o. not (o.txn == txn)) t.txns }

-- the pages that an open transaction touched
abbrev pub touched_in : ℕ → List OpenTxn → List ℕ
touched_in txn txns = fold (λ s o. o.touched) [] (filter (λ o. o.txn == txn) txns)

-- the data pages among them, rising
abbrev pub listed_pages : TxnsView → ℕ → List ℕ
listed_pages t txn = filter (λ p. contains p (touched_in txn t.txns)) (page_numbers t.pages)

-- an open transaction that touched these pages ends: with a Commit or else an Abort that lists them, and without a record where there is none
abbrev pub ended : Bool → TxnsView → ℕ → List ℕ → TxnsView
ended commits t txn [] = closed t txn
ended commits t txn (p ∷ ps) = with_records (closed t txn) (end_record commits txn (p ∷ ps) ∷ [])

-- the LSN of that record
abbrev pub end_lsn : TxnsView → List ℕ → Option ℕ
end_lsn t [] = None
end_lsn t (p ∷ ps) = Some (full_end t + 1)

-- when an open transaction that touched these pages can't end
abbrev pub checks_of_end : Bool → TxnsView → ℕ → List ℕ → List Check
checks_of_end commits t txn [] = []
checks_of_end commits t txn (p ∷ ps) = buffer_is_full t.buffer (end_record commits txn (p ∷ ps) ∷ []) ∷ []
