-- The term starts in a part of a log.
use Rattle.std.specs.Prelude.{ℕ, ◌+◌, List, nat_le, if◌then◌else◌}
use Rattle.std.specs.List.{flat_map, fold, enumerate_from}
use Rattle.ag_model.specs.declared.config.TermStart.{TermStart}
use Rattle.ag_model.specs.declared.record.Record.{Record}
use Rattle.ag_model.specs.Starts.{start_by}

-- the term starts of records that come after an LSN
abbrev pub starts_after : ℕ → List Record → List TermStart
starts_after lsn rs = flat_map (λ r. start_by r.0 r.1) (enumerate_from (lsn + 1) rs)

-- the term of the last of these starts up to an LSN, or 0
abbrev pub term_by : ℕ → List TermStart → ℕ
term_by last starts = fold (λ term s. if nat_le s.lsn last then s.term else term) 0 starts
