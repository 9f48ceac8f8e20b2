-- The pages that the records of a log touch.
use Rattle.std.specs.Prelude.{ℕ, List}
use Rattle.ag_model.specs.declared.record.Record.{Record}
use Rattle.ag_model.specs.PageSets.{pages_where}
use Rattle.ag_rules.specs.ResumeMessage.{is_touched_after}

-- the pages that records after an LSN touch, where there are so many pages of data
abbrev pub touched_after : ℕ → List Record → ℕ → List ℕ
touched_after pages log after = pages_where (is_touched_after pages log after)
