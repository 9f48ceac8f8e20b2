-- Parts of events at one replica that contracts name more than once.
use Rattle.std.specs.Prelude.{ℕ, ◌+◌, List, []}
use Rattle.ag_model.specs.declared.event.Pair.{Pair}
use Rattle.ag_rules.specs.Replica.{Replica}
use Rattle.ag_rules.specs.Plan.{Here, Part}
use Rattle.ag_rules.specs.SetEvent.{sets, pairs_pass, records_of_set}
use Rattle.ag_rules.specs.ApplyEvent.{applies_touching, next_of_stripe, touched_in_stripe}

-- the next transaction, which puts these pairs; each pair is checked before the next
abbrev pub pairs_set : ℕ → Here → Replica → List Pair → Part
pairs_set pages h r pairs = pairs_pass h r (r.leading.last_txn + 1) [] pairs (sets r (records_of_set pages (r.leading.last_txn + 1) pairs))

-- a stripe goes through the next block of the log
abbrev pub applies_next : ℕ → Replica → ℕ → Part
applies_next pages r x = applies_touching pages r x (next_of_stripe r x) (touched_in_stripe pages r x (next_of_stripe r x))
