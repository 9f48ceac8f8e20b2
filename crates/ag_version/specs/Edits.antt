-- What one record does to the value of a page.
use Rattle.std.specs.Prelude.{ℕ, max, List, [], ◌∷◌, ◌++◌, map, not, if◌then◌else◌, ◌==◌}
use Rattle.std.specs.List.{filter}
use Rattle.ag_model.specs.declared.value.Change.{Change}
use Rattle.ag_model.specs.declared.value.Version.{Version}
use Rattle.ag_model.specs.declared.value.PageValue.{PageValue}
use Rattle.ag_model.specs.Page.{is_trimmed_at}

-- the version that a Put or a Del at this LSN makes
abbrev pub new_version : ℕ → ℕ → ℕ → Change → Version
new_version lsn txn key change = record { lsn = lsn; txn = txn; commit = 0; key = key; change = change }

-- a version after its transaction was committed at this LSN
abbrev pub stamped : ℕ → ℕ → Version → Version
stamped lsn txn w = if w.txn == txn then record { lsn = w.lsn; txn = w.txn; commit = lsn; key = w.key; change = w.change } else w

-- the versions of all other transactions
abbrev pub without_txn : ℕ → List Version → List Version
without_txn txn versions = filter (λ w. not (w.txn == txn)) versions

-- the versions that a Trim to this horizon leaves
abbrev pub left_by_trim : ℕ → List Version → List Version
left_by_trim horizon versions = filter (λ w. not (is_trimmed_at versions w horizon)) versions

-- the page after a Put or a Del of one of its keys
abbrev pub after_change : ℕ → ℕ → ℕ → Change → PageValue → PageValue
after_change lsn txn key change v =
    record { page = v.page; lsn = lsn; horizon = v.horizon; versions = v.versions ++ new_version lsn txn key change ∷ [] }

-- the page after a Commit that lists it
abbrev pub after_commit : ℕ → ℕ → PageValue → PageValue
after_commit lsn txn v = record { page = v.page; lsn = lsn; horizon = v.horizon; versions = map (stamped lsn txn) v.versions }

-- the page after an Abort that lists it
abbrev pub after_abort : ℕ → ℕ → PageValue → PageValue
after_abort lsn txn v = record { page = v.page; lsn = lsn; horizon = v.horizon; versions = without_txn txn v.versions }

-- the page after a Trim of it to this horizon
abbrev pub after_trim : ℕ → ℕ → PageValue → PageValue
after_trim lsn horizon v = record { page = v.page; lsn = lsn; horizon = max v.horizon horizon; versions = left_by_trim horizon v.versions }
