use Rattle.ag_logstore.proofs.Written.{current_with, torn_log, old_or_with, still_greatest}
use Rattle.ag_logstore.proofs.laws.torn_blocks.Goals as goal

pub returns-clause-whole : goal.returns-clause-whole
returns-clause-whole c = current_with

pub returns-clause-torn : goal.returns-clause-torn
returns-clause-torn c = torn_log

pub returns-clause-either : goal.returns-clause-either
returns-clause-either c = old_or_with

pub returns-clause-greatest : goal.returns-clause-greatest
returns-clause-greatest c = still_greatest
