use Rattle.std.proofs.Common.{rules}
use Rattle.toml.specs.View.{table_view}
use Rattle.ag_config.proofs.Faults.{of_document, of_none}
use Rattle.ag_config.proofs.head.read_head.Goals as goal

pub returns-in-Ok : goal.returns-in-Ok
returns-in-Ok c = rw (of_document c.args.head.now (table_view c.in-Ok.table) c.in-Ok.ensures.ok.0 c.in-Ok.ensures.ok.1) c.read_table.ensures

pub returns-in-Err-2 : goal.returns-in-Err-2
returns-in-Err-2 c = rw c.bad.ensures (of_none c.args.head.now (c.in-Err.ensures.refused (search rules)))
