use Rattle.ag_law_reverted.proofs.RunReverted.{returns_are_restored}
use Rattle.ag_law_reverted.proofs.reverted_as_restored.Goals as goal

pub returns : goal.returns
returns c = record { reverted = returns_are_restored }
