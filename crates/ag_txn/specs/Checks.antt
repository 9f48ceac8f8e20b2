-- When a call is refused. Each list is that of the event's rule, read off the view.
use Rattle.std.specs.Prelude.{ℕ, List, [], ◌∷◌, length, not, ◌==◌, nat_lt}
use Rattle.ag_model.specs.declared.value.Change.{Change}
use Rattle.ag_model.specs.declared.value.PageValue.{PageValue}
use Rattle.ag_model.specs.declared.record.Record.{Record}
use Rattle.ag_model.specs.declared.record.Record.TheVariants.{Trim}
use Rattle.ag_model.specs.declared.answer.Refusal.TheVariants.{Held, Nothing, Spent, BufferFull}
use Rattle.ag_model.specs.Sizes.{change_size, free_bytes, records_size, buffer_free}
use Rattle.ag_rules.specs.Plan.{Check}
use Rattle.ag_rules.specs.Promotion.{is_spent}
use Rattle.ag_rules.specs.GetEvent.{snapshot_in}
use Rattle.ag_rules.specs.PutEvent.{record_of, is_locked, conflicts, page_is_full}
use Rattle.ag_rules.specs.TrimEvent.{trims_some}
use Rattle.ag_txn.specs.View.{TxnsView, open_txns}

-- the snapshot of an open transaction
abbrev pub snapshot_of : TxnsView → ℕ → ℕ
snapshot_of t txn = snapshot_in txn (open_txns t)

-- no transaction number is left
abbrev pub number_is_spent : TxnsView → Check
number_is_spent t = record { when = is_spent t.last_txn; refusal = Spent }

-- the buffer has no room for these records
abbrev pub buffer_is_full : List Record → List Record → Check
buffer_is_full buffer new = record { when = nat_lt (buffer_free buffer) (records_size new); refusal = BufferFull (records_size new) (buffer_free buffer) }

-- the buffer has no record
abbrev pub buffer_is_empty : TxnsView → Check
buffer_is_empty t = record { when = length t.buffer == 0; refusal = Nothing }

-- when a change isn't taken, on the page as transactions see it
abbrev pub checks_of_put : TxnsView → ℕ → ℕ → Change → PageValue → List Check
checks_of_put t txn key change v =
    is_locked txn key v.versions
    ∷ conflicts key (snapshot_of t txn) v.versions
    ∷ page_is_full (change_size change) (free_bytes v)
    ∷ buffer_is_full t.buffer (record_of txn key change ∷ [])
    ∷ []

-- when a page isn't trimmed to a horizon, as transactions see it
abbrev pub checks_of_trim : TxnsView → ℕ → ℕ → PageValue → List Check
checks_of_trim t limit horizon v =
    record { when = nat_lt limit horizon; refusal = Held horizon limit }
    ∷ record { when = not (trims_some v horizon); refusal = Nothing }
    ∷ buffer_is_full t.buffer (Trim v.page horizon ∷ [])
    ∷ []
