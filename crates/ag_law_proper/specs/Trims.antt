-- The horizons of the Trims of a log.
use Rattle.std.specs.Prelude.{ℕ, ◌<◌}
use Rattle.ag_model.specs.declared.record.Record.{Record}
use Rattle.ag_model.specs.declared.record.Record.TheVariants.{Trim}

-- where a record of this LSN is a Trim, its horizon is below
abbrev pub IsTrimBelow : ℕ → Record → Type 0
IsTrimBelow lsn (Trim page horizon) = horizon < lsn
IsTrimBelow lsn _ = Unit {0}
