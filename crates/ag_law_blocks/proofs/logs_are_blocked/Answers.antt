use Rattle.std.proofs.Common.{arith}
use Rattle.ag_law_blocks.proofs.Runs.{blocks_in_run}
use Rattle.ag_law_blocks.proofs.logs_are_blocked.Goals as goal

pub returns : goal.returns
returns c = record { blocked = λ config es is_config is. blocks_in_run config es is_config.pages.1 (omega (arith, is_config.replicas.0)) is }
