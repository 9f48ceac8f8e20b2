use Rattle.std.proofs.Common.{rules}
use Rattle.ag_config.specs.Head.{is_known}
use Rattle.ag_config.proofs.Keys.{tests_of_keys}
use Rattle.ag_config.proofs.head.has_known_keys.Goals as goal

pub returns-then-not-is_known : goal.returns-then-not-is_known
returns-then-not-is_known c = rw (← tests_of_keys is_known c.args.table.now.entries) (search rules)

pub returns : goal.returns
returns c = rw (← tests_of_keys is_known c.args.table.now.entries) (search rules)
