use Rattle.std.proofs.Common.{rules}
use Rattle.toml.specs.View.{table_view}
use Rattle.ag_config.proofs.Faults.{at_keys, at_pages, at_replicas, at_workers, at_readers, no_fault}
use Rattle.ag_config.proofs.head.read_table.Goals as goal

pub returns-then-not-has_known_keys : goal.returns-then-not-has_known_keys
returns-then-not-has_known_keys c = rw c.bad.ensures (at_keys (table_view c.args.table.now) (search rules))

pub returns-in_default : goal.returns-in_default
returns-in_default c = rw c.bad-in_default.ensures (at_pages (table_view c.args.table.now) (search rules) (search rules))

pub returns-in_default-2 : goal.returns-in_default-2
returns-in_default-2 c = rw c.bad-in_default-2.ensures (at_replicas (table_view c.args.table.now) c.in-Some.pages (search rules) (search rules) (search rules))

pub returns-in_default-workers_of : goal.returns-in_default-workers_of
returns-in_default-workers_of c =
    rw c.bad-in_default-workers_of.ensures (at_workers (table_view c.args.table.now) c.in-Some.pages c.in-Some-2.modes (search rules) (search rules) (search rules) (search rules))

pub returns-in_default-readers_of : goal.returns-in_default-readers_of
returns-in_default-readers_of c =
    rw c.bad-in_default-readers_of.ensures
    (at_readers (table_view c.args.table.now) c.in-Some.pages c.in-Some-2.modes c.in-Some-workers_of.workers (search rules) (search rules) (search rules) (search rules) (search rules))

pub returns : goal.returns
returns c =
    no_fault (table_view c.args.table.now) c.in-Some.pages c.in-Some-2.modes c.in-Some-workers_of.workers c.in-Some-readers_of.readers
    (search rules) (search rules) (search rules) (search rules) (search rules)
